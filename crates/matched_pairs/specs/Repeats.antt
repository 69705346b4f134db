-- ISO 15118-2:2014, 8.8.4 (the order of the requests): how often a car asks the same again, by what happened and by the words that it read.
use Rattle.std.specs.Prelude.{ℕ, ◌+◌, Bool, true, false, ◌&&◌, List, [], ◌∷◌, Option, Some, None}
use Rattle.session_words.specs.declared.plan.CarPlan.{CarPlan}
use Rattle.session_words.specs.declared.plan.PostPlan.{PostPlan}
use Rattle.station_spec.specs.Report.{one_if}
use Rattle.car_rules.specs.declared.stage.CarPhase.{CarPhase}
use Rattle.car_rules.specs.declared.stage.CarStage.{CarStage}
use Rattle.car_spec.specs.States.{Session}
use Rattle.pipe_spec.specs.Histories.{Happening, CarComes, CarReads, token}
use Rattle.pipe_spec.specs.Turns.{car_state}
use Rattle.pair_words.specs.Laws.{is_repeated, repeats}
use Rattle.matched_pairs.specs.Phases.{Words, NoneYet, Read}

-- the stage that a car has come to
abbrev pub stage_in : Option Session → Option CarStage
stage_in None = None
stage_in (Some session) = session.stage

-- from one stage to the other it asks the same again, in one of these steps
abbrev pub asks_again : (CarPhase → Bool) → Option CarStage → Option CarStage → Bool
asks_again is_step None to = false
asks_again is_step (Some from) None = false
asks_again is_step (Some from) (Some to) = is_step from.phase && is_repeated from.phase to.phase

-- the words behind which the newest car asked the same again, in one of these steps
abbrev pub repeats_in : (CarPhase → Bool) → CarPlan → List Happening → ℕ
repeats_in is_step plan [] = 0
repeats_in is_step plan (CarComes other ∷ h) = 0
repeats_in is_step plan (CarReads word ∷ h) =
    one_if (asks_again is_step (stage_in (car_state plan h).session) (stage_in (car_state plan (CarReads word ∷ h)).session)) + repeats_in is_step plan h
repeats_in is_step plan (other ∷ h) = repeats_in is_step plan h

-- whatever the step
abbrev pub is_any : CarPhase → Bool
is_any step = true

-- those of these words
abbrev pub repeats_among : PostPlan → CarPlan → Words → ℕ
repeats_among post_plan plan NoneYet = 0
repeats_among post_plan plan (Read dialect xs) = repeats post_plan plan token dialect xs
