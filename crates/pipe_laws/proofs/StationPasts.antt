-- Within its turns, the station's past in the first session is a run of its site.
use Rattle.std.proofs.Common.{◌≡◌, ℕ, suc, ◌+◌, ◌<◌, ◌≤◌, max, nat_le, Bool, true, false, ◌||◌, List, [], ◌∷◌, ◌++◌, map, length, Option, refl, ap, sym, subst, ◌∙◌, inl, inr, arith}
use Rattle.std.specs.List.{AllByRecursion}
use Rattle.std.proofs.lemmas.Bool.Decides.{nat_tests}
use Rattle.charge_world.specs.declared.heard.What.{What}
use Rattle.charge_world.specs.declared.heard.What.TheVariants as what
use Rattle.session_words.specs.declared.plan.CarPlan.{CarPlan}
use Rattle.session_words.specs.declared.plan.SitePlan.{SitePlan}
use Rattle.post_spec.specs.Codecs.{Codecs}
use Rattle.post_spec.specs.Steps as post
use Rattle.post_spec.specs.Steps.{Act, Give, Send, Answer, End, Event, Step, Reading}
use Rattle.station_spec.specs.Blocks.{is_last, hearings}
use Rattle.station_spec.specs.Sharing.{Shows}
use Rattle.station_spec.specs.Next.{Acts}
use Rattle.station_spec.specs.Acting.{state}
use Rattle.station_spec.specs.Runs as station
use Rattle.station_spec.specs.Runs.{with_step, Rests, MayHear, MayAct}
use Rattle.charge_world.specs.Outside.{IsOfPosts}
use Rattle.car_spec.specs.Codecs as car
use Rattle.pipe_spec.specs.Histories.{Happening, CarComes, ChargerTells, StationHears, CarHears, TimePasses, StationDoes, CarReads, CarDoes, CarGoes, NumberIsDrawn, moment, token, station_steps, station_hearings}
use Rattle.pipe_spec.specs.Pasts.{hearing_at, entry_of, station_entries}
use Rattle.pipe_spec.specs.Turns.{Station, StationRests, StationMayDo, MayTurn, is_over}
use Rattle.pipe_spec.specs.Runs.{IsRun, IsWithin}
use Rattle.pipe_laws.specs.PipePasts.{IsTyped, IsAlone, StationPastsAreRuns}
use Rattle.pipe_laws.proofs.Shown.{late, greater}

-- nothing in it is the last
goes_on : (h : List Happening) → is_last (station_entries h) ≡ false
goes_on [] = refl
goes_on (CarComes plan ∷ h) = refl
goes_on (ChargerTells event ∷ h) = refl
goes_on (StationHears bytes ∷ h) = refl
goes_on (TimePasses ∷ h) = refl
goes_on (CarGoes ∷ h) = refl
goes_on (StationDoes reading (Give order) ∷ h) = goes_on h
goes_on (StationDoes reading (Send bytes) ∷ h) = goes_on h
goes_on (StationDoes reading (Answer bytes) ∷ h) = goes_on h
goes_on (StationDoes reading (End cause) ∷ h) = goes_on h
goes_on (CarHears bytes ∷ h) = goes_on h
goes_on (CarReads judged ∷ h) = goes_on h
goes_on (CarDoes act ∷ h) = goes_on h
goes_on (NumberIsDrawn ∷ h) = goes_on h

one_heard : (m n : ℕ) → m ≡ n → m + 1 ≡ suc n
one_heard m n e = omega (arith, e)

-- as many hearings as the session has
as_many : (plan : CarPlan) (session : List Happening) → AllByRecursion IsWithin session → hearings (station_entries (session ++ CarComes plan ∷ [])) ≡ station_hearings (session ++ CarComes plan ∷ [])
as_many plan [] a = omega arith
as_many plan (ChargerTells event ∷ session) a = one_heard _ _ (as_many plan session a.1)
as_many plan (StationHears bytes ∷ session) a = one_heard _ _ (as_many plan session a.1)
as_many plan (TimePasses ∷ session) a = one_heard _ _ (as_many plan session a.1)
as_many plan (StationDoes reading (Give order) ∷ session) a = as_many plan session a.1
as_many plan (StationDoes reading (Send bytes) ∷ session) a = as_many plan session a.1
as_many plan (StationDoes reading (Answer bytes) ∷ session) a = as_many plan session a.1
as_many plan (StationDoes reading (End cause) ∷ session) a = as_many plan session a.1
as_many plan (CarHears bytes ∷ session) a = as_many plan session a.1
as_many plan (CarReads judged ∷ session) a = as_many plan session a.1
as_many plan (CarDoes act ∷ session) a = as_many plan session a.1
as_many plan (CarComes other ∷ session) a = absurd (let x : false ≡ true = a.0 in cc)
as_many plan (CarGoes ∷ session) a = absurd (let x : false ≡ true = a.0 in cc)
as_many plan (NumberIsDrawn ∷ session) a = absurd (let x : false ≡ true = a.0 in cc)

-- a session that isn't over has turns left
second_false : (a b c d : Bool) → (a || b || c || d) ≡ false → b ≡ false
second_false true b c d e = cc
second_false false true c d e = cc
second_false false false c d e = refl

not_le : (m n : ℕ) → nat_le m n ≡ false → n < m
not_le m n e = grind (arith, nat_tests, e)

turns_left : (st : Station) (h : List Happening) → is_over st h ≡ false → station_hearings h < st.turns
turns_left st h e = not_le st.turns (station_hearings h) (second_false _ _ _ _ e)

-- a hearing
heard_at : (st : Station) (h : List Happening) (n : ℕ) (event : Event) (a : ℕ) → max a n ≡ n
    → with_step (post.Hears n event) (record { plan = st.post; steps = station_steps h }) ∷ [] ≡ with_step (post.Hears (max a n) event) (record { plan = st.post; steps = station_steps h }) ∷ []
heard_at st h n event a e = ap (λ (k : ℕ). with_step (post.Hears k event) (record { plan = st.post; steps = station_steps h }) ∷ []) (sym e)

hears : (c : Codecs) (site : SitePlan) (st : Station) (h : List Happening) (n : ℕ) (w : What) (bytes : List ℕ) (event : Event) → IsAlone site st → StationRests st h → station_hearings h < st.turns
    → hearings (station_entries h) ≡ station_hearings h → moment h ≤ n → IsOfPosts 1 w → post.event_at 1 w bytes ≡ event → IsTyped (entry_of (hearing_at n w bytes))
    → MayHear site.turns (station_entries h) (record { plan = st.post; steps = station_steps h } ∷ []) (entry_of (hearing_at n w bytes))
    (record { plan = st.post; steps = post.Hears n event ∷ station_steps h } ∷ [])
hears c site st h n w bytes event a q t e m o v i = record {
  whole = (q, tt);
  goes_on = goes_on h;
  turns_left = let l = a.turns in omega (arith, l, t, e);
  heard = (
    o,
    i,
    let g : max (post.moment (station_entries h)) n ≡ n = greater (post.moment (station_entries h)) (moment h) n (late h) m in
        ap (λ (x : Event). record { plan = st.post; steps = post.Hears n x ∷ station_steps h } ∷ []) (sym v) ∙ heard_at st h n (post.event_at 1 w bytes) (post.moment (station_entries h)) g,
  );
}

-- an act
acts : (c : Codecs) (site : SitePlan) (st : Station) (h : List Happening) (reading : Option Reading) (act : Act) → IsAlone site st → StationMayDo c st h reading act
    → MayAct c site.limit (record { plan = st.post; steps = station_steps h } ∷ []) (station.entry_of 1 act true) (record { plan = st.post; steps = post.Does reading act true ∷ station_steps h } ∷ [])
acts c site st h reading act a i = record {
  before = [];
  post = record { plan = st.post; steps = station_steps h };
  behind = [];
  posts_are = refl;
  first = tt;
  reading = reading;
  act = act;
  taken = true;
  acts = subst (λ (n : ℕ). Acts c st.post (Shows n [] []) (state st.post (station_steps h)) reading act true) (sym a.limit) i;
  entry_is = refl;
  later_is = refl;
}

turn : (c : Codecs) (cc : car.Codecs) (site : SitePlan) (st : Station) (plan : CarPlan) (session : List Happening) (e : Happening) (n : ℕ) (w : What) (bytes : List ℕ) (event : Event)
    → IsAlone site st → AllByRecursion IsWithin session → MayTurn st (session ++ CarComes plan ∷ []) e → moment (session ++ CarComes plan ∷ []) ≤ n → IsOfPosts 1 w → post.event_at 1 w bytes ≡ event
    → IsTyped (entry_of (hearing_at n w bytes))
    → MayHear site.turns (station_entries (session ++ CarComes plan ∷ [])) (record { plan = st.post; steps = station_steps (session ++ CarComes plan ∷ []) } ∷ []) (entry_of (hearing_at n w bytes))
    (record { plan = st.post; steps = post.Hears n event ∷ station_steps (session ++ CarComes plan ∷ []) } ∷ [])
turn c cc site st plan session e n w bytes event a v m l o k i =
    let r = m.rest in
    hears c site st (session ++ CarComes plan ∷ []) n w bytes event a r.station_rests (turns_left st (session ++ CarComes plan ∷ []) m.goes_on) (as_many plan session v) l o k i

runs : (c : Codecs) (ccs : car.Codecs) (site : SitePlan) (st : Station) (plan : CarPlan) (session : List Happening) → IsAlone site st → AllByRecursion IsWithin session
    → IsRun c ccs st (session ++ CarComes plan ∷ []) → AllByRecursion IsTyped (station_entries (session ++ CarComes plan ∷ []))
    → station.IsRun c site (station_entries (session ++ CarComes plan ∷ [])) (record { plan = st.post; steps = station_steps (session ++ CarComes plan ∷ []) } ∷ [])
runs c ccs site st plan [] a v r t = (
  record { plan = st.post; steps = [] } ∷ [],
  sym (ap (map station.unheard) a.post),
  inl (hears c site st [] 0 (what.Came 1 token) [] (post.Came token) a (record { none = refl; no_word = refl }) a.some refl (omega arith) (omega arith, omega arith) refl t.0),
)
runs c ccs site st plan (ChargerTells event ∷ session) a v r t = (
  record { plan = st.post; steps = station_steps (session ++ CarComes plan ∷ []) } ∷ [],
  runs c ccs site st plan session a v.1 r.0 t.1,
  inl (turn c ccs site st plan session (ChargerTells event) (moment (session ++ CarComes plan ∷ [])) (what.Plant 1 event) [] (post.Plant event) a v.1 r.1 (omega arith) (omega arith, omega arith) refl t.0),
)
runs c ccs site st plan (StationHears bytes ∷ session) a v r t = (
  record { plan = st.post; steps = station_steps (session ++ CarComes plan ∷ []) } ∷ [],
  runs c ccs site st plan session a v.1 r.0 t.1,
  inl (turn c ccs site st plan session (StationHears bytes) (moment (session ++ CarComes plan ∷ [])) (what.Bytes 1 (length bytes)) bytes (post.Bytes bytes) a v.1 r.1 (omega arith) (omega arith, omega arith) refl t.0),
)
runs c ccs site st plan (TimePasses ∷ session) a v r t = (
  record { plan = st.post; steps = station_steps (session ++ CarComes plan ∷ []) } ∷ [],
  runs c ccs site st plan session a v.1 r.0 t.1,
  inl (turn c ccs site st plan session TimePasses (moment (session ++ CarComes plan ∷ []) + 10) what.Tick [] post.Clock a v.1 r.1 (omega arith) tt refl t.0),
)
runs c ccs site st plan (StationDoes reading act ∷ session) a v r t = (
  record { plan = st.post; steps = station_steps (session ++ CarComes plan ∷ []) } ∷ [],
  runs c ccs site st plan session a v.1 r.0 t.1,
  inr (acts c site st (session ++ CarComes plan ∷ []) reading act a r.1),
)
runs c ccs site st plan (CarHears bytes ∷ session) a v r t = runs c ccs site st plan session a v.1 r.0 t
runs c ccs site st plan (CarReads judged ∷ session) a v r t = runs c ccs site st plan session a v.1 r.0 t
runs c ccs site st plan (CarDoes act ∷ session) a v r t = runs c ccs site st plan session a v.1 r.0 t
runs c ccs site st plan (CarComes other ∷ session) a v r t = absurd (let x : false ≡ true = v.0 in cc)
runs c ccs site st plan (CarGoes ∷ session) a v r t = absurd (let x : false ≡ true = v.0 in cc)
runs c ccs site st plan (NumberIsDrawn ∷ session) a v r t = absurd (let x : false ≡ true = v.0 in cc)

pub station_pasts_are_runs : (c : Codecs) (ccs : car.Codecs) → StationPastsAreRuns c ccs
station_pasts_are_runs c ccs site st plan h a f t =
    subst (λ (k : List Happening). station.IsRun c site (station_entries k) (record { plan = st.post; steps = station_steps k } ∷ [])) (sym f.h_is)
    (runs c ccs site st plan f.session a f.within (subst (IsRun c ccs st) f.h_is f.run) (subst (λ (k : List Happening). AllByRecursion IsTyped (station_entries k)) f.h_is t))
