-- Within its turns, the car's past in the first session is a run of the car.
use Rattle.std.proofs.Common.{◌≡◌, ℕ, suc, ◌+◌, ◌<◌, ◌≤◌, nat_le, Bool, true, false, ◌&&◌, ◌||◌, if◌then◌else◌, List, [], ◌∷◌, ◌++◌, length, Option, Some, None, is_some, refl, sym, subst, inl, inr, arith}
use Rattle.std.specs.List.{AllByRecursion}
use Rattle.std.proofs.lemmas.Bool.Decides.{nat_tests}
use Rattle.charge_world.specs.declared.entry.Entry.{Entry}
use Rattle.charge_world.specs.declared.heard.What.{What}
use Rattle.charge_world.specs.declared.heard.What.TheVariants as what
use Rattle.charge_world.specs.Outside.{IsOfPosts}
use Rattle.session_words.specs.declared.plan.CarPlan.{CarPlan}
use Rattle.post_spec.specs.Codecs.{Codecs}
use Rattle.post_spec.specs.Steps as post
use Rattle.post_spec.specs.Steps.{Event}
use Rattle.station_spec.specs.Blocks.{is_over as is_over_heard, is_last, hearings}
use Rattle.car_spec.specs.Codecs as car
use Rattle.car_spec.specs.Steps.{Act, Seek, Dial, Give, Say, End, Step, Hears, Loses, Reads, Does}
use Rattle.car_spec.specs.Steps as car_steps_of
use Rattle.car_spec.specs.Acting.{state}
use Rattle.car_spec.specs.Next.{IsQuiet, MayAct, MayRead}
use Rattle.car_spec.specs.Runs as car_runs
use Rattle.car_spec.specs.Runs.{MayHear, IsHeard}
use Rattle.car_laws.proofs.Silent.{IsEndedBy, over_or_end}
use Rattle.pipe_spec.specs.Histories.{Happening, CarComes, ChargerTells, StationHears, CarHears, TimePasses, StationDoes, CarReads, CarDoes, CarGoes, NumberIsDrawn, moment, joined, token, car_plan, car_ended_by, car_cause, car_steps, car_hearings, station_has_ended, car_has_ended, station_hearings}
use Rattle.pipe_spec.specs.Pasts.{hearing_at, entry_of, car_entries}
use Rattle.pipe_spec.specs.Turns.{Station, CarRestsBy, BothRest, CarMayReadBy, CarMayDoBy, MayTurn, is_over, car_is_spent, nothing_under_way}
use Rattle.pipe_spec.specs.Runs.{IsRun, IsWithin}
use Rattle.pipe_laws.specs.PipePasts.{IsTyped, CarPastsAreRuns}
use Rattle.pipe_laws.proofs.Shown.{greater}

-- the plan of the session's car
plan_is : (plan : CarPlan) (session : List Happening) → AllByRecursion IsWithin session → car_plan (session ++ CarComes plan ∷ []) ≡ Some (joined plan)
plan_is plan [] a = refl
plan_is plan (ChargerTells event ∷ session) a = plan_is plan session a.1
plan_is plan (StationHears bytes ∷ session) a = plan_is plan session a.1
plan_is plan (CarHears bytes ∷ session) a = plan_is plan session a.1
plan_is plan (TimePasses ∷ session) a = plan_is plan session a.1
plan_is plan (StationDoes reading act ∷ session) a = plan_is plan session a.1
plan_is plan (CarReads judged ∷ session) a = plan_is plan session a.1
plan_is plan (CarDoes act ∷ session) a = plan_is plan session a.1
plan_is plan (CarComes other ∷ session) a = absurd (let x : false ≡ true = a.0 in cc)
plan_is plan (CarGoes ∷ session) a = absurd (let x : false ≡ true = a.0 in cc)
plan_is plan (NumberIsDrawn ∷ session) a = absurd (let x : false ≡ true = a.0 in cc)

-- nothing in its past is the last, the clock never goes back, and it has as many hearings as the session: together, by whether it has ended
pub record FitsPast (past : List Entry) (at count : ℕ) : Type 0 where
  pub goes_on : is_last past ≡ false
  pub late : post.moment past ≤ at
  pub many : hearings past ≡ count

heard_fits : (ended : Bool) (past : List Entry) (before at count : ℕ) (w : What) (bytes : List ℕ) → before ≤ at → is_over_heard w ≡ false → FitsPast past before count
    → FitsPast (if ended then past else entry_of (hearing_at at w bytes) ∷ past) at (if ended then count else suc count)
heard_fits true past before at count w bytes l o f = record { goes_on = f.goes_on; late = (let x = f.late in omega (arith, x, l)); many = f.many }
heard_fits false past before at count w bytes l o f = record {
  goes_on = o;
  late = (let x = f.late in let g = greater (post.moment past) before at x l in omega (arith, g));
  many = (let m = f.many in omega (arith, m));
}

act_fits : (act : Act) (past : List Entry) (at count : ℕ) → FitsPast past at count → FitsPast (car_steps_of.entry_of act true ∷ past) at count
act_fits (Seek datagram) past at count f = record { goes_on = f.goes_on; late = f.late; many = f.many }
act_fits (Dial port) past at count f = record { goes_on = f.goes_on; late = f.late; many = f.many }
act_fits (Give order) past at count f = record { goes_on = f.goes_on; late = f.late; many = f.many }
act_fits (Say spoken bytes) past at count f = record { goes_on = f.goes_on; late = f.late; many = f.many }
act_fits (End cause) past at count f = record { goes_on = f.goes_on; late = f.late; many = f.many }

fits : (plan : CarPlan) (session : List Happening) → AllByRecursion IsWithin session
    → FitsPast (car_entries (session ++ CarComes plan ∷ [])) (moment (session ++ CarComes plan ∷ [])) (car_hearings (session ++ CarComes plan ∷ []))
fits plan [] a = record { goes_on = refl; late = omega arith; many = omega arith }
fits plan (CarHears bytes ∷ session) a = heard_fits _ _ _ _ _ (what.Bytes 1 (length bytes)) bytes (omega arith) refl (fits plan session a.1)
fits plan (TimePasses ∷ session) a = heard_fits _ _ _ _ _ what.Tick [] (omega arith) refl (fits plan session a.1)
fits plan (CarDoes act ∷ session) a = act_fits act _ _ _ (fits plan session a.1)
fits plan (ChargerTells event ∷ session) a = fits plan session a.1
fits plan (StationHears bytes ∷ session) a = fits plan session a.1
fits plan (StationDoes reading act ∷ session) a = fits plan session a.1
fits plan (CarReads judged ∷ session) a = fits plan session a.1
fits plan (CarComes other ∷ session) a = absurd (let x : false ≡ true = a.0 in cc)
fits plan (CarGoes ∷ session) a = absurd (let x : false ≡ true = a.0 in cc)
fits plan (NumberIsDrawn ∷ session) a = absurd (let x : false ≡ true = a.0 in cc)

-- a car that hasn't ended goes on
none_some : {A : Type 0} (a : A) → Some a ≡ None → ⊥
none_some a e = cc

step_end : (x y : Step) (xs ys : List Step) → x ∷ xs ≡ y ∷ ys → x ≡ y
step_end x y xs ys e = cc

not_end : (at : ℕ) (event : Event) (n : ℕ) (taken : Bool) → Hears at event ≡ Does (End n) taken → ⊥
not_end at event n taken e = cc

read_end : (w : car.Judged) (n : ℕ) (taken : Bool) → Reads w ≡ Does (End n) taken → ⊥
read_end w n taken e = cc

act_end : (act : Act) (n : ℕ) (taken : Bool) (earlier : Option ℕ) → Does act true ≡ Does (End n) taken → car_ended_by act earlier ≡ None → ⊥
act_end (End m) n taken earlier e f = none_some m f
act_end (Seek datagram) n taken earlier e f = cc
act_end (Dial port) n taken earlier e f = cc
act_end (Give order) n taken earlier e f = cc
act_end (Say spoken bytes) n taken earlier e f = cc

heard_end : (ended : Option ℕ) (at : ℕ) (event : Event) (steps : List Step) → ended ≡ None → IsEndedBy (if is_some ended then steps else Hears at event ∷ steps) → ⊥
heard_end None at event steps e b = not_end at event b.cause b.taken (step_end _ _ _ _ b.is)
heard_end (Some cause) at event steps e b = none_some cause e

no_end : (plan : CarPlan) (session : List Happening) → AllByRecursion IsWithin session → car_cause (session ++ CarComes plan ∷ []) ≡ None → IsEndedBy (car_steps (session ++ CarComes plan ∷ [])) → ⊥
no_end plan [] a e b = not_end 0 (post.Came token) b.cause b.taken (step_end _ _ _ _ b.is)
no_end plan (CarHears bytes ∷ session) a e b =
    heard_end (car_cause (session ++ CarComes plan ∷ [])) (moment (session ++ CarComes plan ∷ [])) (post.Bytes bytes) (car_steps (session ++ CarComes plan ∷ [])) e b
no_end plan (TimePasses ∷ session) a e b =
    heard_end (car_cause (session ++ CarComes plan ∷ [])) (moment (session ++ CarComes plan ∷ []) + 10) post.Clock (car_steps (session ++ CarComes plan ∷ [])) e b
no_end plan (CarReads w ∷ session) a e b = read_end w b.cause b.taken (step_end _ _ _ _ b.is)
no_end plan (CarDoes act ∷ session) a e b = act_end act b.cause b.taken (car_cause (session ++ CarComes plan ∷ [])) (step_end _ _ _ _ b.is) e
no_end plan (ChargerTells event ∷ session) a e b = no_end plan session a.1 e b
no_end plan (StationHears bytes ∷ session) a e b = no_end plan session a.1 e b
no_end plan (StationDoes reading act ∷ session) a e b = no_end plan session a.1 e b
no_end plan (CarComes other ∷ session) a e b = let x : false ≡ true = a.0 in cc
no_end plan (CarGoes ∷ session) a e b = let x : false ≡ true = a.0 in cc
no_end plan (NumberIsDrawn ∷ session) a e b = let x : false ≡ true = a.0 in cc

-- a session that isn't over has turns left
third_false : (a b c d : Bool) → (a || b || c || d) ≡ false → c ≡ false
third_false true b c d e = cc
third_false false true c d e = cc
third_false false false true d e = cc
third_false false false false d e = refl

not_spent : (st : Station) (h : List Happening) → is_over st h ≡ false → car_is_spent (car_plan h) h ≡ false
not_spent st h e = third_false (station_has_ended h && car_has_ended h) (nat_le st.turns (station_hearings h)) (car_is_spent (car_plan h) h)
    ((station_has_ended h || car_has_ended h) && nothing_under_way h) e

not_le : (m n : ℕ) → nat_le m n ≡ false → n < m
not_le m n e = grind (arith, nat_tests, e)

spent_by : (o : Option CarPlan) (own : CarPlan) (h : List Happening) → o ≡ Some own → car_is_spent o h ≡ false → car_hearings h < own.turns
spent_by None own h e f = absurd (none_some own (sym e))
spent_by (Some other) own h e f =
    let same : other ≡ own = cc in
    let l : car_hearings h < other.turns = not_le other.turns (car_hearings h) f in
    subst (λ (p : CarPlan). car_hearings h < p.turns) same l

rests_by : (o : Option CarPlan) (own : CarPlan) (h : List Happening) → o ≡ Some own → CarRestsBy o h → IsQuiet own (state own (car_steps h))
rests_by None own h e q = absurd (none_some own (sym e))
rests_by (Some other) own h e q = let same : other ≡ own = cc in subst (λ (p : CarPlan). IsQuiet p (state p (car_steps h))) same q

reads_by : (cs : car.Codecs) (o : Option CarPlan) (own : CarPlan) (h : List Happening) (w : car.Judged) → o ≡ Some own → CarMayReadBy cs o h w → MayRead cs own (state own (car_steps h)) w
reads_by cs None own h w e q = absurd q
reads_by cs (Some other) own h w e q = let same : other ≡ own = cc in subst (λ (p : CarPlan). MayRead cs p (state p (car_steps h)) w) same q

acts_by : (cs : car.Codecs) (o : Option CarPlan) (own : CarPlan) (h : List Happening) (a : Act) → o ≡ Some own → CarMayDoBy cs o h a → MayAct cs own (state own (car_steps h)) a true
acts_by cs None own h a e q = absurd q
acts_by cs (Some other) own h a e q = let same : other ≡ own = cc in subst (λ (p : CarPlan). MayAct cs p (state p (car_steps h)) a true) same q

-- what a car hears, unless it has ended
heard_run : (cs : car.Codecs) (own : CarPlan) (cause : Option ℕ) (past : List Entry) (steps : List Step) (before at count : ℕ) (w : What) (bytes : List ℕ) (event : Event)
    → car_runs.IsRun cs own past steps → FitsPast past before count → before ≤ at → count < own.turns → IsQuiet own (state own steps) → (cause ≡ None → IsEndedBy steps → ⊥)
    → IsOfPosts 1 w → post.event_at 1 w bytes ≡ event → AllByRecursion IsTyped (if is_some cause then past else entry_of (hearing_at at w bytes) ∷ past)
    → car_runs.IsRun cs own (if is_some cause then past else entry_of (hearing_at at w bytes) ∷ past) (if is_some cause then steps else Hears at event ∷ steps)
heard_run cs own (Some cause) past steps before at count w bytes event r f l n q e o v t = r
heard_run cs own None past steps before at count w bytes event r f l n q e o v t = (
  past,
  r,
  record {
    whole = q;
    lives = elim (over_or_end cs own past steps r) [
      | inl x ↦ x
      | inr b ↦ absurd (e refl b)
    ];
    goes_on = f.goes_on;
    turns_left = (let m = f.many in omega (arith, m, n));
  },
  record {
    heard = record { at = at; what = w };
    bytes = bytes;
    of_car = o;
    within = t.0;
    at_is = sym (greater (post.moment past) before at f.late l);
    event_is = sym v;
    past_is = refl;
  },
)

typed_by : (cause : Option ℕ) (past : List Entry) (e : Entry) → AllByRecursion IsTyped (if is_some cause then past else e ∷ past) → AllByRecursion IsTyped past
typed_by None past e t = t.1
typed_by (Some cause) past e t = t

runs : (c : Codecs) (cs : car.Codecs) (st : Station) (plan : CarPlan) (session : List Happening) → 1 ≤ plan.turns → AllByRecursion IsWithin session → IsRun c cs st (session ++ CarComes plan ∷ [])
    → AllByRecursion IsTyped (car_entries (session ++ CarComes plan ∷ [])) → car_runs.IsRun cs (joined plan) (car_entries (session ++ CarComes plan ∷ [])) (car_steps (session ++ CarComes plan ∷ []))
runs c cs st plan [] l a r t = (
  [],
  refl,
  record { whole = record { none = refl; no_word = refl }; lives = refl; goes_on = refl; turns_left = omega (arith, l) },
  record {
    heard = record { at = 0; what = what.Came 1 token };
    bytes = [];
    of_car = (omega arith, omega arith);
    within = t.0;
    at_is = omega arith;
    event_is = refl;
    past_is = refl;
  },
)
runs c cs st plan (CarHears bytes ∷ session) l a r t =
    let h : List Happening = session ++ CarComes plan ∷ [] in
    let m : MayTurn st h (CarHears bytes) = r.1 in
    let q : BothRest st h = m.rest in
    let p = plan_is plan session a.1 in
    heard_run cs (joined plan) (car_cause h) (car_entries h) (car_steps h) (moment h) (moment h) (car_hearings h) (what.Bytes 1 (length bytes)) bytes (post.Bytes bytes)
    (runs c cs st plan session l a.1 r.0 (typed_by (car_cause h) (car_entries h) _ t)) (fits plan session a.1) (omega arith)
    (spent_by (car_plan h) (joined plan) h p (not_spent st h m.goes_on)) (rests_by (car_plan h) (joined plan) h p q.car_rests) (no_end plan session a.1)
    (omega arith, omega arith) refl t
runs c cs st plan (TimePasses ∷ session) l a r t =
    let h : List Happening = session ++ CarComes plan ∷ [] in
    let m : MayTurn st h TimePasses = r.1 in
    let q : BothRest st h = m.rest in
    let p = plan_is plan session a.1 in
    heard_run cs (joined plan) (car_cause h) (car_entries h) (car_steps h) (moment h) (moment h + 10) (car_hearings h) what.Tick [] post.Clock
    (runs c cs st plan session l a.1 r.0 (typed_by (car_cause h) (car_entries h) _ t)) (fits plan session a.1) (omega arith)
    (spent_by (car_plan h) (joined plan) h p (not_spent st h m.goes_on)) (rests_by (car_plan h) (joined plan) h p q.car_rests) (no_end plan session a.1)
    tt refl t
runs c cs st plan (CarReads w ∷ session) l a r t =
    let h : List Happening = session ++ CarComes plan ∷ [] in
    let f = r.1 in
    (runs c cs st plan session l a.1 r.0 t, reads_by cs (car_plan h) (joined plan) h w (plan_is plan session a.1) f.1)
runs c cs st plan (CarDoes act ∷ session) l a r t =
    let h : List Happening = session ++ CarComes plan ∷ [] in
    let f = r.1 in
    (car_entries h, runs c cs st plan session l a.1 r.0 t.1, acts_by cs (car_plan h) (joined plan) h act (plan_is plan session a.1) f.1, refl)
runs c cs st plan (ChargerTells event ∷ session) l a r t = runs c cs st plan session l a.1 r.0 t
runs c cs st plan (StationHears bytes ∷ session) l a r t = runs c cs st plan session l a.1 r.0 t
runs c cs st plan (StationDoes reading act ∷ session) l a r t = runs c cs st plan session l a.1 r.0 t
runs c cs st plan (CarComes other ∷ session) l a r t = absurd (let x : false ≡ true = a.0 in cc)
runs c cs st plan (CarGoes ∷ session) l a r t = absurd (let x : false ≡ true = a.0 in cc)
runs c cs st plan (NumberIsDrawn ∷ session) l a r t = absurd (let x : false ≡ true = a.0 in cc)

pub car_pasts_are_runs : (c : Codecs) (cs : car.Codecs) → CarPastsAreRuns c cs
car_pasts_are_runs c cs st plan h l f t =
    subst (λ (k : List Happening). car_runs.IsRun cs (joined plan) (car_entries k) (car_steps k)) (sym f.h_is)
    (runs c cs st plan f.session l f.within (subst (IsRun c cs st) f.h_is f.run) (subst (λ (k : List Happening). AllByRecursion IsTyped (car_entries k)) f.h_is t))
