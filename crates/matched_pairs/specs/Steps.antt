-- ISO 15118-2:2014, 8.7 (the timers of the car): what is left by which a deadline could be reached, a step that is asked for again and again.
use Rattle.std.specs.Prelude.{◌≡◌, ◌+◌, ◌<◌, List, [], ◌∷◌, Option, Some, None}
use Rattle.std.specs.List.{AllByRecursion}
use Rattle.session_words.specs.declared.plan.CarPlan.{CarPlan}
use Rattle.post_spec.specs.Codecs as post
use Rattle.post_spec.specs.Steps.{Bytes, Clock}
use Rattle.car_rules.specs.declared.deadlines.CarDue.{CarDue}
use Rattle.car_rules.specs.Deadlines.{step_due, hit}
use Rattle.car_spec.specs.Codecs as car
use Rattle.car_spec.specs.States.{Session, State}
use Rattle.car_spec.specs.Hearing as car_hearing
use Rattle.pipe_spec.specs.Histories.{Happening, CarHears, TimePasses, moment, joined, station_hearings, car_hearings}
use Rattle.pipe_spec.specs.Runs.{IsSession}
use Rattle.pipe_spec.specs.Turns.{Station, car_state}
use Rattle.pipe_laws.specs.OneMessage.{IsShort}
use Rattle.pipe_laws.specs.PipePasts.{IsFirst}
use Rattle.matched_pairs.specs.Moves.{IsPair}
use Rattle.matched_pairs.specs.Causes.{HasEndedByStop}
use Rattle.matched_pairs.specs.Power.{AllKeepTime}

-- the deadline of its step, where that has one
abbrev pub step_deadline : Option Session → Option CarDue
step_deadline None = None
step_deadline (Some session) = step_due session.stage session.moments.begun

abbrev pub IsStepInTime : State → Type 0
IsStepInTime k = hit (step_deadline k.session ∷ []) k.clock ≡ None

abbrev pub KeepsSteps : CarPlan → List Happening → Happening → Type 0
KeepsSteps plan h (CarHears bytes) = IsStepInTime (car_hearing.hearing (moment h) (Bytes bytes) (car_state plan h))
KeepsSteps plan h TimePasses = IsStepInTime (car_hearing.hearing (moment h + 10) Clock (car_state plan h))
KeepsSteps plan h other = Unit {0}

abbrev pub AllKeepSteps : CarPlan → List Happening → Type 0
AllKeepSteps plan [] = Unit {0}
AllKeepSteps plan (e ∷ h) = AllKeepSteps plan h × KeepsSteps plan h e

-- 65,544: the bytes of the longest frame that is read
abbrev pub DeadlinesAreKept : post.Codecs → car.Codecs → Type 0
DeadlinesAreKept c cc = (st : Station) (plan : CarPlan) (h : List Happening) → IsPair c cc st.post (joined plan) → IsFirst c cc st plan h
    → AllByRecursion (IsShort 65544) h → AllKeepSteps (joined plan) h → AllKeepTime st (joined plan) h

-- so a session that is over, but for the turns of a plan, has ended by SessionStop at both ends
abbrev pub SteadySessionsEnd : post.Codecs → car.Codecs → Type 0
SteadySessionsEnd c cc = (st : Station) (plan : CarPlan) (h : List Happening) → IsPair c cc st.post (joined plan) → IsSession c cc st [] plan h
    → AllByRecursion (IsShort 65544) h → AllKeepSteps (joined plan) h → station_hearings h < st.turns → car_hearings h < plan.turns
    → HasEndedByStop st (joined plan) h
