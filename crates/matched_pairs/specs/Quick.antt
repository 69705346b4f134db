-- ISO 15118-2:2014, 8.7 (the timers of the car): authorization, the parameters and the cable check take little time between plans that match.
use Rattle.std.specs.Prelude.{◌≡◌, ◌≤◌, Bool, true, false, List, ◌∷◌, Some}
use Rattle.std.specs.List.{AllByRecursion}
use Rattle.session_words.specs.declared.plan.CarPlan.{CarPlan}
use Rattle.post_spec.specs.Codecs as post
use Rattle.car_rules.specs.declared.stage.CarPhase.{CarPhase}
use Rattle.car_rules.specs.declared.stage.CarPhase.TheVariants as phase
use Rattle.car_rules.specs.declared.stage.CarStage.{CarStage}
use Rattle.car_spec.specs.Codecs as car
use Rattle.car_spec.specs.States.{Session}
use Rattle.pipe_spec.specs.Histories.{Happening, joined}
use Rattle.pipe_spec.specs.Turns.{Station, car_state}
use Rattle.pipe_laws.specs.OneMessage.{IsShort}
use Rattle.pipe_laws.specs.PipePasts.{IsFirst}
use Rattle.matched_pairs.specs.Moves.{IsPair}
use Rattle.matched_pairs.specs.Steps.{KeepsSteps, AllKeepSteps}

-- the steps that are done within 300 ms of the first session
abbrev pub is_quick : CarPhase → Bool
is_quick phase.Authorizing = true
is_quick phase.Asking = true
is_quick phase.CableChecking = true
is_quick other = false

-- 65,544: the bytes of the longest frame that is read. The site bears a watt at least
abbrev pub QuickStepsAreKept : post.Codecs → car.Codecs → Type 0
QuickStepsAreKept c cc = (st : Station) (plan : CarPlan) (h : List Happening) (e : Happening) (session : Session) (stage : CarStage)
    → IsPair c cc st.post (joined plan) → 1 ≤ st.limit → IsFirst c cc st plan (e ∷ h) → AllByRecursion (IsShort 65544) (e ∷ h)
    → AllKeepSteps (joined plan) h → (car_state (joined plan) h).session ≡ Some session → session.stage ≡ Some stage → is_quick stage.phase ≡ true
    → KeepsSteps (joined plan) h e
