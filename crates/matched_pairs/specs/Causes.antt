-- Own: in the first session of the pipe between a station and a car whose plans match, SessionStop is the cause of both ends.
use Rattle.std.specs.Prelude.{◌≡◌, ℕ, ◌<◌, List, [], Option, Some, None}
use Rattle.std.specs.List.{AllByRecursion}
use Rattle.session_words.specs.declared.plan.CarPlan.{CarPlan}
use Rattle.post_spec.specs.Codecs as post
use Rattle.car_spec.specs.Codecs as car
use Rattle.pipe_spec.specs.Histories.{Happening, joined, station_cause, car_cause, station_hearings, car_hearings}
use Rattle.pipe_spec.specs.Runs.{IsSession}
use Rattle.pipe_spec.specs.Turns.{Station}
use Rattle.pipe_laws.specs.OneMessage.{IsShort}
use Rattle.pipe_laws.specs.PipePasts.{IsFirst}
use Rattle.matched_pairs.specs.Moves.{IsPair}
use Rattle.matched_pairs.specs.Courses.{AllGoUndisturbed}
use Rattle.matched_pairs.specs.Stopping.{HasStopped}

-- the number of that cause is 1
abbrev pub IsStop : Option ℕ → Type 0
IsStop None = Unit {0}
IsStop (Some number) = number ≡ 1

pub record AreStops (h : List Happening) : Type 0 where
  pub station : IsStop (station_cause h)
  pub car : IsStop (car_cause h)

abbrev pub CausesAreStops : post.Codecs → car.Codecs → Type 0
CausesAreStops c cc = (st : Station) (plan : CarPlan) (h : List Happening) → IsPair c cc st.post (joined plan) → IsFirst c cc st plan h
    → AllByRecursion (IsShort 65544) h → AllGoUndisturbed c cc st (joined plan) h → AreStops h

-- a session that is over, but for the turns of a plan
pub record HasEndedByStop (st : Station) (plan : CarPlan) (h : List Happening) : Type 0 where
  pub stopped : HasStopped st plan h
  pub station : station_cause h ≡ Some 1
  pub car : car_cause h ≡ Some 1

abbrev pub SessionsEndByStop : post.Codecs → car.Codecs → Type 0
SessionsEndByStop c cc = (st : Station) (plan : CarPlan) (h : List Happening) → IsPair c cc st.post (joined plan) → IsSession c cc st [] plan h
    → AllByRecursion (IsShort 65544) h → AllGoUndisturbed c cc st (joined plan) h → station_hearings h < st.turns → car_hearings h < plan.turns
    → HasEndedByStop st (joined plan) h
