-- ISO 15118-2:2014, 8.7 (the timers of the car): the pre-charge is done within its 7,000 ms between plans that match.
use Rattle.std.specs.Prelude.{ℕ, ◌≤◌, List, ◌∷◌}
use Rattle.std.specs.List.{AllByRecursion}
use Rattle.session_words.specs.declared.plan.CarPlan.{CarPlan}
use Rattle.post_spec.specs.Codecs as post
use Rattle.car_rules.specs.declared.stage.CarPhase.TheVariants as phase
use Rattle.car_spec.specs.Codecs as car
use Rattle.pipe_spec.specs.Histories.{Happening, joined}
use Rattle.pipe_spec.specs.Turns.{Station, car_state}
use Rattle.pipe_laws.specs.OneMessage.{IsShort}
use Rattle.pipe_laws.specs.PipePasts.{IsFirst}
use Rattle.pair_words.specs.Timed.{is_pre_charging}
use Rattle.matched_pairs.specs.Moves.{IsPair}
use Rattle.matched_pairs.specs.Repeats.{repeats_in}
use Rattle.matched_pairs.specs.Steps.{KeepsSteps, AllKeepSteps}
use Rattle.matched_pairs.specs.Voltages.{IsInPhase}

-- 65,544: the bytes of the longest frame that is read. The site bears a watt at least
abbrev pub PreChargesAreKept : post.Codecs → car.Codecs → Type 0
PreChargesAreKept c cc = (st : Station) (plan : CarPlan) (h : List Happening) (e : Happening) → IsPair c cc st.post (joined plan)
    → 1 ≤ st.limit → IsFirst c cc st plan (e ∷ h) → AllByRecursion (IsShort 65544) (e ∷ h) → AllKeepSteps (joined plan) h
    → IsInPhase phase.PreCharging (car_state (joined plan) h).session → KeepsSteps (joined plan) h e

-- 30,000: the greatest voltage, in tenths of a volt
abbrev pub PreChargesAreFew : post.Codecs → car.Codecs → Type 0
PreChargesAreFew c cc = (st : Station) (plan : CarPlan) (h : List Happening) → IsPair c cc st.post (joined plan) → 1 ≤ st.limit
    → IsFirst c cc st plan h → AllByRecursion (IsShort 65544) h → AllKeepSteps (joined plan) h → plan.target_voltage ≤ 30000
    → repeats_in is_pre_charging (joined plan) h ≤ 30
