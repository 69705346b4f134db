-- Values are written by `din_values` as the tables say.
use Rattle.std.proofs.Common.{◌≡◌, Bool, true, false, Option, Some, None, refl, ap}
use Rattle.std.specs.Option.{option_map}
use Rattle.charge_world.specs.declared.heard.IsolationLevel.{IsolationLevel}
use Rattle.charge_world.specs.declared.heard.IsolationLevel.TheVariants as level
use Rattle.exi_documents.specs.Trees.{Ordinal}
use Rattle.message_parts.specs.Contents.{Of, mapped, holding}
use Rattle.session_words.specs.declared.amount.Amount.{Amount}
use Rattle.session_words.specs.declared.code.Code.{Code}
use Rattle.session_words.specs.declared.code.Code.TheVariants as code
use Rattle.session_words.specs.declared.code.Notify.{Notify}
use Rattle.session_words.specs.declared.code.Notify.TheVariants as notify
use Rattle.session_words.specs.declared.code.Processing.{Processing}
use Rattle.session_words.specs.declared.code.Processing.TheVariants as processing
use Rattle.session_words.specs.declared.code.StatusCode.{StatusCode}
use Rattle.session_words.specs.declared.code.StatusCode.TheVariants as status
use Rattle.session_words.specs.declared.mode.Mode.{Mode}
use Rattle.session_words.specs.declared.mode.Mode.TheVariants as mode
use Rattle.session_words.specs.declared.mode.OfferedMode.{OfferedMode}
use Rattle.session_words.specs.declared.mode.OfferedMode.TheVariants as offered
use Rattle.word_values.specs.declared.amounts.Written.{Written}
use Rattle.word_values.specs.Amounts.{written_tenths, written_watts}
use Rattle.din_parts.specs.Codes.{response_code_ordinal, payment_option_ordinal, energy_transfer_mode_ordinal, supported_energy_transfer_type_ordinal, evse_processing_ordinal}
use Rattle.din_parts.specs.Enumerations.{unit_symbol_ordinal, isolation_level_ordinal, evse_status_code_ordinal, evse_notification_ordinal}
use Rattle.din_parts.specs.Values.{physical_value_parts}
use Rattle.din_values.specs.Codes.{response_code}
use Rattle.din_values.specs.Modes.{energy_transfer_mode, offered_mode}
use Rattle.din_values.specs.Physical.{unit_if as din_unit_if, physical as din_physical, tenths_of, power_of}
use Rattle.din_values.specs.States.{isolation_level, evse_status_code, evse_notification, evse_processing, payment_option}
use Rattle.word_tables.specs.Tables.{written}
use Rattle.message_tables.specs.Codes.{notify_number, status_number, mode_number, second_number}
use Rattle.din_tables.specs.Codes.{level_number, code_number, processing_number, offered_number}
use Rattle.din_tables.specs.Values.{unit_if, spelled, physical, voltage, power}

-- ---- enumerations

pub code_written : (c : Code) → response_code_ordinal (response_code c) ≡ code_number c
code_written code.Failed = refl
code_written other = refl

pub step_written : (p : Processing) → evse_processing_ordinal (evse_processing p) ≡ processing_number p
step_written processing.Finished = refl
step_written other = refl

pub mode_written : (m : Mode) → energy_transfer_mode_ordinal (energy_transfer_mode m) ≡ mode_number m
mode_written mode.DcCore = refl
mode_written other = refl

pub offered_written : (m : OfferedMode) → supported_energy_transfer_type_ordinal (offered_mode m) ≡ offered_number m
offered_written offered.DcCore = refl
offered_written other = refl

pub external_written : (external : Bool) → payment_option_ordinal (payment_option external) ≡ second_number external
external_written true = refl
external_written false = refl

pub status_written : (c : StatusCode) → evse_status_code_ordinal (evse_status_code c) ≡ status_number c
status_written status.EvseReady = refl
status_written other = refl

pub notify_written : (n : Notify) → evse_notification_ordinal (evse_notification n) ≡ notify_number n
notify_written notify.StopCharging = refl
notify_written other = refl

level_written : (l : IsolationLevel) → isolation_level_ordinal (isolation_level l) ≡ level_number l
level_written level.Valid = refl
level_written other = refl

pub levels_written : (o : Option IsolationLevel)
    → mapped (λ x. Of (Ordinal (isolation_level_ordinal x))) (option_map isolation_level o) ≡ option_map (λ l. Of (Ordinal (level_number l))) o
levels_written None = refl
levels_written (Some l) = ap (λ n. Some (Of (Ordinal n))) (level_written l)

-- ---- physical values

pub unit_written : (right : Bool)
    → mapped (λ x. Of (Ordinal (unit_symbol_ordinal x))) (din_unit_if right) ≡ option_map (λ u. Of (Ordinal u)) (unit_if right)
unit_written true = refl
unit_written false = refl

value_written : (w : Written) (right : Bool) → holding (physical_value_parts (din_physical w right)) ≡ written physical (spelled w right)
value_written w true = refl
value_written w false = refl

pub tenths_if_written : (o : Option Amount)
    → mapped (λ x. holding (physical_value_parts x)) (option_map tenths_of o) ≡ option_map (λ a. written voltage a) o
tenths_if_written None = refl
tenths_if_written (Some a) = ap (λ i. Some i) (value_written (written_tenths a.size) a.right)

pub power_if_written : (o : Option Amount)
    → mapped (λ x. holding (physical_value_parts x)) (option_map power_of o) ≡ option_map (λ a. written power a) o
power_if_written None = refl
power_if_written (Some a) = ap (λ i. Some i) (value_written (written_watts a.size) a.right)
