-- How often PreCharge was asked for again, by the phases before and behind each word.
use Rattle.std.proofs.Common.{◌≡◌, ℕ, ◌+◌, ◌≤◌, Bool, true, false, ◌&&◌, List, [], ◌∷◌, Option, Some, None, refl, arith}
use Rattle.session_words.specs.declared.plan.CarPlan.{CarPlan}
use Rattle.station_spec.specs.Report.{one_if}
use Rattle.car_rules.specs.declared.stage.CarPhase.{CarPhase}
use Rattle.car_rules.specs.declared.stage.CarPhase.TheVariants as phase
use Rattle.car_rules.specs.declared.stage.CarStage.{CarStage}
use Rattle.car_spec.specs.States.{Session}
use Rattle.pipe_spec.specs.Histories.{Happening, CarComes, ChargerTells, StationHears, CarHears, TimePasses, StationDoes, CarReads, CarDoes, CarGoes, NumberIsDrawn}
use Rattle.pipe_spec.specs.Turns.{car_state}
use Rattle.pair_words.specs.Laws.{is_repeated}
use Rattle.pair_words.specs.Timed.{is_pre_charging}
use Rattle.matched_pairs.specs.Repeats.{stage_in, asks_again, repeats_in}

-- how often PreCharge was asked for again: words behind which the car pre-charges as before
abbrev pub stage_pre_charges : Option CarStage → Bool
stage_pre_charges None = false
stage_pre_charges (Some stage) = is_pre_charging stage.phase

abbrev pub pre_charges : Option Session → Bool
pre_charges None = false
pre_charges (Some session) = stage_pre_charges session.stage

abbrev pub pre_charges_again : CarPlan → List Happening → ℕ
pre_charges_again plan [] = 0
pre_charges_again plan (CarReads word ∷ h) =
    one_if (pre_charges (car_state plan h).session && pre_charges (car_state plan (CarReads word ∷ h)).session) + pre_charges_again plan h
pre_charges_again plan (other ∷ h) = pre_charges_again plan h

-- ---- these are at least the repeats of the step

same : (n : ℕ) → n ≤ n
same n = omega arith

sum_of : (a b m n : ℕ) → a ≤ b → m ≤ n → a + m ≤ b + n
sum_of a b m n l k = omega (arith, l, k)

least : (n : ℕ) → 0 ≤ n
least n = omega arith

again_pre_charging : (to : CarPhase) → one_if (is_repeated phase.PreCharging to) ≤ one_if (is_pre_charging to)
again_pre_charging phase.SettingUp = same 0
again_pre_charging phase.Discovering = same 0
again_pre_charging phase.Selecting = same 0
again_pre_charging phase.Authorizing = same 0
again_pre_charging phase.Asking = same 0
again_pre_charging phase.CableChecking = same 0
again_pre_charging phase.PreCharging = same 1
again_pre_charging phase.Starting = same 0
again_pre_charging phase.Charging = same 0
again_pre_charging phase.Stopping = same 0
again_pre_charging phase.Renegotiating = same 0
again_pre_charging phase.Ending = same 0
again_pre_charging (phase.Welding left) = same 0

phase_again : (from to : CarPhase) → one_if (is_pre_charging from && is_repeated from to) ≤ one_if (is_pre_charging from && is_pre_charging to)
phase_again phase.SettingUp to = same 0
phase_again phase.Discovering to = same 0
phase_again phase.Selecting to = same 0
phase_again phase.Authorizing to = same 0
phase_again phase.Asking to = same 0
phase_again phase.CableChecking to = same 0
phase_again phase.PreCharging to = again_pre_charging to
phase_again phase.Starting to = same 0
phase_again phase.Charging to = same 0
phase_again phase.Stopping to = same 0
phase_again phase.Renegotiating to = same 0
phase_again phase.Ending to = same 0
phase_again (phase.Welding left) to = same 0

stage_again : (from to : Option CarStage) → one_if (asks_again is_pre_charging from to) ≤ one_if (stage_pre_charges from && stage_pre_charges to)
stage_again None to = same 0
stage_again (Some from) None = least (one_if (is_pre_charging from.phase && false))
stage_again (Some from) (Some to) = phase_again from.phase to.phase

none_again : (from : Option CarStage) → one_if (asks_again is_pre_charging from None) ≤ one_if (stage_pre_charges from && false)
none_again from = stage_again from None

session_again : (a b : Option Session) → one_if (asks_again is_pre_charging (stage_in a) (stage_in b)) ≤ one_if (pre_charges a && pre_charges b)
session_again None b = same 0
session_again (Some x) None = none_again x.stage
session_again (Some x) (Some y) = stage_again x.stage y.stage

pub fewer : (plan : CarPlan) (h : List Happening) → repeats_in is_pre_charging plan h ≤ pre_charges_again plan h
fewer plan [] = same 0
fewer plan (CarReads word ∷ h) =
    sum_of _ _ _ _ (session_again (car_state plan h).session (car_state plan (CarReads word ∷ h)).session) (fewer plan h)
fewer plan (CarComes other ∷ h) = least (pre_charges_again plan h)
fewer plan (ChargerTells event ∷ h) = fewer plan h
fewer plan (StationHears bytes ∷ h) = fewer plan h
fewer plan (CarHears bytes ∷ h) = fewer plan h
fewer plan (TimePasses ∷ h) = fewer plan h
fewer plan (StationDoes reading act ∷ h) = fewer plan h
fewer plan (CarDoes act ∷ h) = fewer plan h
fewer plan (CarGoes ∷ h) = fewer plan h
fewer plan (NumberIsDrawn ∷ h) = fewer plan h
