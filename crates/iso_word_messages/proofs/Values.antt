-- Values are written by `iso_values` as the tables say.
use Rattle.std.proofs.Common.{◌≡◌, ℕ, Bool, true, false, ℤ, pos, negsuc, ◌≤ℤ◌, Option, Some, None, refl, ap, arith}
use Rattle.std.proofs.lemmas.Int.{ints}
use Rattle.std.specs.Option.{option_map}
use Rattle.charge_world.specs.declared.heard.IsolationLevel.{IsolationLevel}
use Rattle.charge_world.specs.declared.heard.IsolationLevel.TheVariants as level
use Rattle.exi_documents.specs.Trees.{Ordinal}
use Rattle.message_parts.specs.Contents.{Inside, Of, mapped, holding}
use Rattle.session_words.specs.Amounts.{above_zero}
use Rattle.session_words.specs.declared.amount.Amount.{Amount}
use Rattle.session_words.specs.declared.code.Code.{Code}
use Rattle.session_words.specs.declared.code.Code.TheVariants as code
use Rattle.session_words.specs.declared.code.Notify.{Notify}
use Rattle.session_words.specs.declared.code.Notify.TheVariants as notify
use Rattle.session_words.specs.declared.code.Processing.{Processing}
use Rattle.session_words.specs.declared.code.Processing.TheVariants as processing
use Rattle.session_words.specs.declared.code.Progress.{Progress}
use Rattle.session_words.specs.declared.code.Progress.TheVariants as progress
use Rattle.session_words.specs.declared.code.StatusCode.{StatusCode}
use Rattle.session_words.specs.declared.code.StatusCode.TheVariants as status
use Rattle.session_words.specs.declared.mode.Mode.{Mode}
use Rattle.session_words.specs.declared.mode.Mode.TheVariants as mode
use Rattle.session_words.specs.declared.mode.OfferedMode.{OfferedMode}
use Rattle.session_words.specs.declared.mode.OfferedMode.TheVariants as offered
use Rattle.word_values.specs.declared.amounts.Written.{Written}
use Rattle.word_values.specs.Amounts.{written_tenths, written_watts}
use Rattle.iso_parts.specs.Codes.{response_code_ordinal, payment_option_ordinal, energy_transfer_mode_ordinal, evse_processing_ordinal, charging_session_ordinal, charge_progress_ordinal}
use Rattle.iso_parts.specs.Enumerations.{unit_symbol_ordinal, isolation_level_ordinal, evse_status_code_ordinal, evse_notification_ordinal}
use Rattle.iso_parts.specs.Values.{physical_value_parts}
use Rattle.iso_parts.specs.declared.enumerations.UnitSymbol.TheVariants as unit
use Rattle.iso_values.specs.Codes.{response_code}
use Rattle.iso_values.specs.Modes.{energy_transfer_mode, offered_mode}
use Rattle.iso_values.specs.Physical.{unit_if as iso_unit_if, voltage_of, current_of, power_of}
use Rattle.iso_values.specs.States.{isolation_level, evse_status_code, evse_notification, evse_processing, charge_progress, payment_option, charging_session}
use Rattle.word_tables.specs.Tables.{written}
use Rattle.message_tables.specs.Codes.{notify_number, status_number, mode_number, second_number}
use Rattle.iso_tables.specs.Codes.{level_number, code_number, processing_number, offered_number, progress_number}
use Rattle.iso_tables.specs.Values.{unit_if, spelled, physical, voltage, current, power}
use Rattle.iso_word_messages.specs.Spellable.{IsTupleNumber}

-- ---- enumerations

pub code_written : (c : Code) → response_code_ordinal (response_code c) ≡ code_number c
code_written code.Failed = refl
code_written other = refl

pub step_written : (p : Processing) → evse_processing_ordinal (evse_processing p) ≡ processing_number p
step_written processing.Finished = refl
step_written other = refl

pub mode_written : (m : Mode) → energy_transfer_mode_ordinal (energy_transfer_mode m) ≡ mode_number m
mode_written mode.DcCore = refl
mode_written other = refl

pub offered_written : (m : OfferedMode) → energy_transfer_mode_ordinal (offered_mode m) ≡ offered_number m
offered_written offered.DcCore = refl
offered_written other = refl

pub progress_written : (p : Progress) → charge_progress_ordinal (charge_progress p) ≡ progress_number p
progress_written progress.Start = refl
progress_written other = refl

pub external_written : (external : Bool) → payment_option_ordinal (payment_option external) ≡ second_number external
external_written true = refl
external_written false = refl

pub pause_written : (pause : Bool) → charging_session_ordinal (charging_session pause) ≡ second_number pause
pause_written true = refl
pause_written false = refl

pub status_written : (c : StatusCode) → evse_status_code_ordinal (evse_status_code c) ≡ status_number c
status_written status.EvseReady = refl
status_written other = refl

pub notify_written : (n : Notify) → evse_notification_ordinal (evse_notification n) ≡ notify_number n
notify_written notify.StopCharging = refl
notify_written other = refl

level_written : (l : IsolationLevel) → isolation_level_ordinal (isolation_level l) ≡ level_number l
level_written level.Valid = refl
level_written other = refl

pub levels_written : (o : Option IsolationLevel)
    → mapped (λ x. Of (Ordinal (isolation_level_ordinal x))) (option_map isolation_level o) ≡ option_map (λ l. Of (Ordinal (level_number l))) o
levels_written None = refl
levels_written (Some l) = ap (λ n. Some (Of (Ordinal n))) (level_written l)

-- ---- the number of a schedule tuple

pub number_written : (id : ℤ) → IsTupleNumber id → pos (above_zero id) ≡ id
number_written (pos n) h = refl
number_written (negsuc n) h = let low : pos 1 ≤ℤ negsuc n = h.0 in absurd (omega (arith, ints))

-- ---- physical values

pub volt_written : (right : Bool) → unit_symbol_ordinal (iso_unit_if right unit.V) ≡ unit_if right 4
volt_written true = refl
volt_written false = refl

pub ampere_written : (right : Bool) → unit_symbol_ordinal (iso_unit_if right unit.A) ≡ unit_if right 3
ampere_written true = refl
ampere_written false = refl

pub watt_written : (right : Bool) → unit_symbol_ordinal (iso_unit_if right unit.W) ≡ unit_if right 5
watt_written true = refl
watt_written false = refl

abbrev spelled_inside : Written → ℕ → Inside
spelled_inside w unit = written physical (spelled w unit)

pub power_written : (a : Amount) → holding (physical_value_parts (power_of a)) ≡ written power a
power_written a = ap (spelled_inside (written_watts a.size)) (watt_written a.right)

-- where there is one
pub voltages_written : (o : Option Amount) → mapped (λ x. holding (physical_value_parts x)) (option_map voltage_of o) ≡ option_map (λ a. written voltage a) o
voltages_written None = refl
voltages_written (Some a) = ap (λ u. Some (spelled_inside (written_tenths a.size) u)) (volt_written a.right)

pub currents_written : (o : Option Amount) → mapped (λ x. holding (physical_value_parts x)) (option_map current_of o) ≡ option_map (λ a. written current a) o
currents_written None = refl
currents_written (Some a) = ap (λ u. Some (spelled_inside (written_tenths a.size) u)) (ampere_written a.right)

pub powers_written : (o : Option Amount) → mapped (λ x. holding (physical_value_parts x)) (option_map power_of o) ≡ option_map (λ a. written power a) o
powers_written None = refl
powers_written (Some a) = ap (λ i. Some i) (power_written a)
