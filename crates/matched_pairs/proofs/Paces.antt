-- One induction over the first session.
use Rattle.std.proofs.Common.{◌≡◌, ℕ, ◌≤◌, true, false, List, [], ◌∷◌, ◌++◌, Option, Some, None, refl, sym, subst, arith}
use Rattle.std.specs.List.{AllByRecursion}
use Rattle.session_words.specs.declared.plan.CarPlan.{CarPlan}
use Rattle.post_spec.specs.Codecs as post
use Rattle.car_spec.specs.Codecs as car
use Rattle.car_spec.specs.States as car_states
use Rattle.pipe_spec.specs.Histories.{Happening, CarComes, ChargerTells, StationHears, CarHears, TimePasses, StationDoes, CarReads, CarDoes, CarGoes, NumberIsDrawn, moment, joined, token, car_plan, car_cause}
use Rattle.pipe_spec.specs.Turns.{Station, station_state, car_state, MayTurn}
use Rattle.pipe_spec.specs.Runs.{IsRun, IsWithin}
use Rattle.pipe_laws.specs.OneMessage.{IsShort}
use Rattle.pipe_laws.specs.PipePasts.{IsFirst}
use Rattle.pipe_laws.proofs.Runs as runs
use Rattle.pipe_laws.proofs.Runs.{EndedBy}
use Rattle.pair_words.specs.Laws.{both}
use Rattle.pair_words.proofs.Sessions.{they_meet}
use Rattle.matched_pairs.specs.Moves.{IsPair}
use Rattle.matched_pairs.specs.Courses.{AllGoUndisturbed}
use Rattle.matched_pairs.proofs.Courses.{plan_is, sessions_go_well}
use Rattle.matched_pairs.proofs.Contactors.{contactors_follow}
use Rattle.matched_pairs.specs.Power.{AllKeepTime}
use Rattle.matched_pairs.proofs.Timely.{timely_sessions_are_undisturbed}
use Rattle.matched_pairs.specs.Clocks.{ShowMoment}
use Rattle.matched_pairs.specs.Pauses.{PausesAt}
use Rattle.matched_pairs.proofs.Clocks.{clocks}
use Rattle.matched_pairs.proofs.Pauses.{time_passes_in_pauses}
use Rattle.matched_pairs.proofs.Bounds.{bounded}
use Rattle.matched_pairs.proofs.Closing.{closes_are_heard}
use Rattle.matched_pairs.specs.Paces.{IsFresh, IsFreshIn, KeepsPace, SessionsKeepPace}
use Rattle.matched_pairs.proofs.Pacing.{timing_not}
use Rattle.matched_pairs.proofs.Asked.{AskedBy, AskedIn}
use Rattle.matched_pairs.proofs.Passing.{IsPassing, passing}
use Rattle.matched_pairs.proofs.Held.{Holds, Known, not_ended}
use Rattle.matched_pairs.proofs.Hearings.{tells, hears, car_hears}
use Rattle.matched_pairs.proofs.Passes.{passes}
use Rattle.matched_pairs.proofs.Does.{does}
use Rattle.matched_pairs.proofs.Cars.{reads, acts}

true_false : true ≡ false → ⊥
true_false e = cc

some_none : {A : Type 0} (a : A) → Some a ≡ None → ⊥
some_none a e = cc

-- the session as far as it has come
abbrev pub front : CarPlan → List Happening → List Happening
front plan session = session ++ CarComes plan ∷ []

-- what is known of it
pub record Seen (c : post.Codecs) (cs : car.Codecs) (st : Station) (plan : CarPlan) (session : List Happening) : Type 0 where
  pub pair : IsPair c cs st.post (joined plan)
  pub within : AllByRecursion IsWithin session
  pub run : IsRun c cs st (front plan session)
  pub short : AllByRecursion (IsShort 65544) (front plan session)
  pub undisturbed : AllGoUndisturbed c cs st (joined plan) (front plan session)

pub first_of : (c : post.Codecs) (cs : car.Codecs) (st : Station) (plan : CarPlan) (session : List Happening) → AllByRecursion IsWithin session → IsRun c cs st (front plan session) → IsFirst c cs st plan (front plan session)
first_of c cs st plan session w r = record { session = session; h_is = refl; within = w; run = r }

pub known : (c : post.Codecs) (cs : car.Codecs) (st : Station) (plan : CarPlan) (session : List Happening) → Seen c cs st plan session → Known c cs st (joined plan) (front plan session)
known c cs st plan session s =
    let came : car_plan (front plan session) ≡ Some (joined plan) = plan_is session plan s.within in
    let f : IsFirst c cs st plan (front plan session) = first_of c cs st plan session s.within s.run in
    let show : ShowMoment st (joined plan) (front plan session) = clocks st plan session s.within in
    let holds : runs.Holds 65544 st (front plan session) (Some (joined plan)) =
    subst (λ (o : Option CarPlan). runs.Holds 65544 st (front plan session) o) came (runs.holds 65544 c cs st (front plan session) (omega arith) s.run s.short) in
    let ended : EndedBy (car_cause (front plan session)) (car_state (joined plan) (front plan session)) = holds.ended in
    record {
      pair = s.pair;
      came = came;
      well = sessions_go_well c cs st plan (front plan session) s.pair f s.short s.undisturbed;
      stands = contactors_follow c cs st plan (front plan session) s.pair f s.short s.undisturbed;
      clock = show.station;
      car_clock = λ o. show.car (not_ended (car_cause (front plan session)) (car_state (joined plan) (front plan session)) ended o);
      ended = ended;
    }

within_type : (now : ℕ) → now ≤ 42949672960 → now ≤ 18446744073709551500
within_type now l = omega (arith, l)

pub passing_at : (c : post.Codecs) (cs : car.Codecs) (st : Station) (plan : CarPlan) (session : List Happening) → Seen c cs st plan session → (f : MayTurn st (front plan session) TimePasses)
    → IsRun c cs st (TimePasses ∷ front plan session) → Holds st (joined plan) (front plan session)
    → IsPassing (moment (front plan session)) (station_state st (front plan session)) (car_state (joined plan) (front plan session))
passing_at c cs st plan session s f r k =
    let n : Known c cs st (joined plan) (front plan session) = known c cs st plan session s in
    let first : IsFirst c cs st plan (front plan session) = first_of c cs st plan session s.within s.run in
    let later : IsFirst c cs st plan (TimePasses ∷ front plan session) = record { session = TimePasses ∷ session; h_is = refl; within = (refl, s.within); run = r } in
    let p : PausesAt st (joined plan) (front plan session) = time_passes_in_pauses c cs st plan (front plan session) s.pair later s.short s.undisturbed in
    let t = f.turn in
    let pair : IsPair c cs st.post (joined plan) = s.pair in
    passing st.post (joined plan) (both st.post (joined plan) token p.dialect p.xs) (moment (front plan session)) (station_state st (front plan session)) (car_state (joined plan) (front plan session)) f.charger
    (they_meet st.post (joined plan) token p.dialect p.xs pair.paired p.are) k.paced n.car_clock k.waits t.0
    (λ e. closes_are_heard c cs st plan (front plan session) s.pair first s.short s.undisturbed (within_type (moment (front plan session)) k.few) e f.charger f.charger_is)
    p.pausing

step : (e : Happening) (c : post.Codecs) (cs : car.Codecs) (st : Station) (plan : CarPlan) (session : List Happening) → Seen c cs st plan session → Seen c cs st plan (e ∷ session) → Holds st (joined plan) (front plan session)
    → Holds st (joined plan) (e ∷ front plan session)
step (ChargerTells event) c cs st plan session s t k =
    let r = t.run in let d = t.undisturbed in tells c cs st (joined plan) (front plan session) event (known c cs st plan session s) r.1 d.1 k
step (StationHears bytes) c cs st plan session s t k = let r = t.run in hears c cs st (joined plan) (front plan session) bytes (known c cs st plan session s) r.1 k
step (CarHears bytes) c cs st plan session s t k = let r = t.run in car_hears c cs st (joined plan) (front plan session) bytes (known c cs st plan session s) r.1 k
step TimePasses c cs st plan session s t k =
    let r = t.run in
    let w = t.within in
    passes c cs st (joined plan) (front plan session) (known c cs st plan session s) r.1 (passing_at c cs st plan session s r.1 t.run k) (bounded plan (TimePasses ∷ session) t.within) k
step (StationDoes reading act) c cs st plan session s t k =
    let r = t.run in
    let d = t.undisturbed in
    let n : Known c cs st (joined plan) (StationDoes reading act ∷ front plan session) = known c cs st plan (StationDoes reading act ∷ session) t in
    does c cs st (joined plan) (front plan session) reading act (known c cs st plan session s) r.1 d.1 n.stands k
step (CarReads w) c cs st plan session s t k = let r = t.run in let f = r.1 in reads c cs st (joined plan) (front plan session) w (known c cs st plan session s) f.1 k
step (CarDoes act) c cs st plan session s t k = let r = t.run in let f = r.1 in acts c cs st (joined plan) (front plan session) act (known c cs st plan session s) f.1 k
step (CarComes other) c cs st plan session s t k = let w = t.within in absurd (true_false (sym w.0))
step CarGoes c cs st plan session s t k = let w = t.within in absurd (true_false (sym w.0))
step NumberIsDrawn c cs st plan session s t k = let w = t.within in absurd (true_false (sym w.0))

-- the car has come
none_yet : 0 ≤ 42949672960
none_yet = omega arith

begins : (st : Station) (plan : CarPlan) → Holds st (joined plan) (CarComes plan ∷ [])
begins st plan = record {
  behind = tt;
  asked = tt;
  again = tt;
  coming = record { under_way = λ w. tt; unread = λ u. tt };
  waits = λ x e w. absurd (some_none x (sym e));
  paced = record { heard = timing_not; paced = (tt, tt) };
  set_up = λ e. refl;
  few = none_yet;
}

pub seen : (c : post.Codecs) (cs : car.Codecs) (st : Station) (plan : CarPlan) (session : List Happening) → IsPair c cs st.post (joined plan) → AllByRecursion IsWithin session → IsRun c cs st (front plan session)
    → AllByRecursion (IsShort 65544) (front plan session) → AllKeepTime st (joined plan) (front plan session) → Seen c cs st plan session
seen c cs st plan session p w r l d = record {
  pair = p;
  within = w;
  run = r;
  short = l;
  undisturbed = timely_sessions_are_undisturbed c cs st plan (front plan session) p (first_of c cs st plan session w r) l d;
}

pub holds_in : (c : post.Codecs) (cs : car.Codecs) (st : Station) (plan : CarPlan) (session : List Happening) → IsPair c cs st.post (joined plan) → AllByRecursion IsWithin session → IsRun c cs st (front plan session)
    → AllByRecursion (IsShort 65544) (front plan session) → AllKeepTime st (joined plan) (front plan session) → Holds st (joined plan) (front plan session)
holds_in c cs st plan [] p w r l d = begins st plan
holds_in c cs st plan (e ∷ session) p w r l d =
    step e c cs st plan session (seen c cs st plan session p w.1 r.0 l.1 d.0) (seen c cs st plan (e ∷ session) p w r l d) (holds_in c cs st plan session p w.1 r.0 l.1 d.0)

-- ---- what is said of it

fresh_by : (sent : Option ℕ) (st : Station) (h : List Happening) (now : ℕ) (way : List ℕ) → AskedBy now (station_state st h) way sent → IsFresh now sent
fresh_by None st h now way k = tt
fresh_by (Some at) st h now way k = k.soon

fresh_in : (o : Option car_states.Session) (st : Station) (h : List Happening) (now : ℕ) (way : List ℕ) → AskedIn now (station_state st h) way o → IsFreshIn now o
fresh_in None st h now way k = tt
fresh_in (Some y) st h now way k = fresh_by y.moments.sent st h now way k

pub keeps : (st : Station) (plan : CarPlan) (h : List Happening) → Holds st plan h → KeepsPace st plan h
keeps st plan h k = record { behind = k.behind; fresh = fresh_in (car_state plan h).session st h (moment h) _ k.asked; set_up = k.set_up }

pub sessions_keep_pace : (c : post.Codecs) (cs : car.Codecs) → SessionsKeepPace c cs
sessions_keep_pace c cs st plan h p f l d =
    subst (λ (x : List Happening). KeepsPace st (joined plan) x) (sym f.h_is)
    (keeps st (joined plan) (front plan f.session)
    (holds_in c cs st plan f.session p f.within (subst (λ (x : List Happening). IsRun c cs st x) f.h_is f.run) (subst (λ (x : List Happening). AllByRecursion (IsShort 65544) x) f.h_is l)
    (subst (λ (x : List Happening). AllKeepTime st (joined plan) x) f.h_is d)))
