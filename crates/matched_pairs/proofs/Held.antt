-- What is so at each moment of the first session, and what is known of it there.
use Rattle.std.proofs.Common.{◌≡◌, ℕ, ◌≤◌, Bool, true, false, if◌then◌else◌, List, ◌∷◌, Option, Some, None, is_some, refl, subst}
use Rattle.session_words.specs.declared.plan.CarPlan.{CarPlan}
use Rattle.post_spec.specs.Codecs as post
use Rattle.post_spec.specs.Steps.{Event}
use Rattle.car_spec.specs.Codecs as car
use Rattle.car_spec.specs.Steps as car_steps_of
use Rattle.car_spec.specs.States as car_states
use Rattle.car_spec.specs.Acting as car_acting
use Rattle.car_spec.specs.Hearing as car_hearing
use Rattle.car_spec.specs.Next as car_next
use Rattle.pipe_spec.specs.Histories.{Happening, moment, car_plan, car_cause, to_station, to_car}
use Rattle.pipe_spec.specs.Turns.{Station, station_state, car_state, BothRest, CarRestsBy}
use Rattle.pipe_laws.proofs.Runs.{EndedBy}
use Rattle.matched_pairs.specs.Moves.{IsPair}
use Rattle.matched_pairs.specs.Courses.{GoesWell}
use Rattle.matched_pairs.specs.Contactors.{Stands}
use Rattle.matched_pairs.specs.Paces.{IsSoonBehind, IsSetUpAtOnce}
use Rattle.matched_pairs.proofs.Pacing.{IsPaced, quiet_has_none}
use Rattle.matched_pairs.proofs.Asked.{AskedIn}
use Rattle.matched_pairs.proofs.Coming.{AgainIn, IsComing}
use Rattle.matched_pairs.proofs.Waits.{WaitsFor}

true_false : (b : Bool) → b ≡ true → b ≡ false → ⊥
true_false b e f = cc

-- 42,949,672,960: ten milliseconds for each turn of a car's plan
pub record Holds (st : Station) (plan : CarPlan) (h : List Happening) : Type 0 where
  pub behind : IsSoonBehind (moment h) (station_state st h).session
  pub asked : AskedIn (moment h) (station_state st h) (to_station h) (car_state plan h).session
  pub again : AgainIn (car_state plan h).session (station_state st h).session
  pub coming : IsComing (moment h) (station_state st h).session (car_state plan h).session (to_car h)
  pub waits : WaitsFor st.post (station_state st h)
  pub paced : IsPaced (car_state plan h)
  pub set_up : IsSetUpAtOnce (moment h) (car_state plan h).session
  pub few : moment h ≤ 42949672960

pub record Known (c : post.Codecs) (cs : car.Codecs) (st : Station) (plan : CarPlan) (h : List Happening) : Type 0 where
  pub pair : IsPair c cs st.post plan
  pub came : car_plan h ≡ Some plan
  pub well : GoesWell c cs st plan h
  pub stands : Stands st h
  pub clock : (station_state st h).clock ≡ moment h
  pub car_clock : (car_state plan h).over ≡ false → (car_state plan h).clock ≡ moment h
  pub ended : EndedBy (car_cause h) (car_state plan h)

-- a car that hasn't ended has no cause
pub not_ended : (cause : Option ℕ) (k : car_states.State) → EndedBy cause k → k.over ≡ false → is_some cause ≡ false
not_ended None k e o = refl
not_ended (Some n) k e o = absurd (true_false k.over e.over o)

-- what is so of a car that hears something, and of one that has ended, is so of both
pub car_heard : (P : car_states.State → Type 0) (cause : Option ℕ) (plan : CarPlan) (steps : List car_steps_of.Step) (event : Event) (at : ℕ) → P (car_hearing.hearing at event (car_acting.state plan steps))
    → P (car_acting.state plan steps) → P (car_acting.state plan (if is_some cause then steps else car_steps_of.Hears at event ∷ steps))
car_heard P None plan steps event at p q = p
car_heard P (Some n) plan steps event at p q = q

pub car_lives : (P : car_states.State → Type 0) (cause : Option ℕ) (plan : CarPlan) (steps : List car_steps_of.Step) (event : Event) (at : ℕ) → is_some cause ≡ false
    → P (car_hearing.hearing at event (car_acting.state plan steps)) → P (car_acting.state plan (if is_some cause then steps else car_steps_of.Hears at event ∷ steps))
car_lives P None plan steps event at e p = p
car_lives P (Some n) plan steps event at e p = absurd (true_false true refl e)

-- a car that has nothing to do
pub rests : (st : Station) (plan : CarPlan) (h : List Happening) → car_plan h ≡ Some plan → BothRest st h → car_next.IsQuiet plan (car_state plan h)
rests st plan h e r = subst (λ (o : Option CarPlan). CarRestsBy o h) e r.car_rests

pub no_agenda : (st : Station) (plan : CarPlan) (h : List Happening) → car_plan h ≡ Some plan → BothRest st h → (car_state plan h).agenda ≡ car_states.nothing
no_agenda st plan h e r = let q : car_next.IsQuiet plan (car_state plan h) = rests st plan h e r in quiet_has_none plan (car_state plan h) q.none
