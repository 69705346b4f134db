-- What the tables read of values of a message, and of its parts, is what the functions of `iso_values` make of them.
use Rattle.std.proofs.Common.{◌≡◌, ◌==◌, true, [], Option, refl, ◌∙◌, ap}
use Rattle.std.specs.Option.{option_map}
use Rattle.charge_world.specs.declared.heard.IsolationLevel.{IsolationLevel}
use Rattle.exi_documents.specs.Trees.{Ordinal}
use Rattle.message_parts.specs.Contents.{Inside, Of, mapped, holding}
use Rattle.session_words.specs.declared.code.Notify.{Notify}
use Rattle.session_words.specs.declared.code.StatusCode.{StatusCode}
use Rattle.session_words.specs.declared.limits.DcStatus.{DcStatus}
use Rattle.tree_words.specs.Named.{head}
use Rattle.tree_words.proofs.Held.{kept_if}
use Rattle.tree_words.proofs.Lists.{reads_if, ◌⊛◌}
use Rattle.word_values.specs.Amounts.{in_tenths, in_watts}
use Rattle.iso_parts.specs.Enumerations.{unit_symbol_ordinal, isolation_level_ordinal, evse_status_code_ordinal, evse_notification_ordinal}
use Rattle.iso_parts.specs.Codes.{response_code_ordinal, payment_option_ordinal, energy_transfer_mode_ordinal, evse_processing_ordinal, charging_session_ordinal, charge_progress_ordinal}
use Rattle.iso_parts.specs.Values.{physical_value_parts, ac_evse_status_parts, dc_evse_status_parts}
use Rattle.iso_parts.specs.declared.codes.ChargeProgress.{ChargeProgress}
use Rattle.iso_parts.specs.declared.codes.ChargeProgress.TheVariants as iso_progress
use Rattle.iso_parts.specs.declared.codes.ChargingSession.{ChargingSession}
use Rattle.iso_parts.specs.declared.codes.ChargingSession.TheVariants as iso_session
use Rattle.iso_parts.specs.declared.codes.EnergyTransferMode.{EnergyTransferMode}
use Rattle.iso_parts.specs.declared.codes.EnergyTransferMode.TheVariants as iso_mode
use Rattle.iso_parts.specs.declared.codes.EvseProcessing.{EvseProcessing}
use Rattle.iso_parts.specs.declared.codes.EvseProcessing.TheVariants as iso_processing
use Rattle.iso_parts.specs.declared.codes.PaymentOption.{PaymentOption}
use Rattle.iso_parts.specs.declared.codes.PaymentOption.TheVariants as iso_payment
use Rattle.iso_parts.specs.declared.codes.ResponseCode.{ResponseCode}
use Rattle.iso_parts.specs.declared.codes.ResponseCode.TheVariants as iso_code
use Rattle.iso_parts.specs.declared.enumerations.EvseNotification.{EvseNotification}
use Rattle.iso_parts.specs.declared.enumerations.EvseNotification.TheVariants as iso_notify
use Rattle.iso_parts.specs.declared.enumerations.EvseStatusCode.{EvseStatusCode}
use Rattle.iso_parts.specs.declared.enumerations.EvseStatusCode.TheVariants as iso_status
use Rattle.iso_parts.specs.declared.enumerations.IsolationLevel.{IsolationLevel as IsoLevel}
use Rattle.iso_parts.specs.declared.enumerations.IsolationLevel.TheVariants as iso_level
use Rattle.iso_parts.specs.declared.enumerations.UnitSymbol.{UnitSymbol}
use Rattle.iso_parts.specs.declared.enumerations.UnitSymbol.TheVariants as unit
use Rattle.iso_parts.specs.declared.values.AcEvseStatus.{AcEvseStatus}
use Rattle.iso_parts.specs.declared.values.DcEvseStatus.{DcEvseStatus}
use Rattle.iso_parts.specs.declared.values.PhysicalValue.{PhysicalValue}
use Rattle.iso_values.specs.Codes.{code_of}
use Rattle.iso_values.specs.Modes.{mode_of, offered_of}
use Rattle.iso_values.specs.Physical.{is_volt, is_ampere, is_watt, voltage_in, current_in, power_in}
use Rattle.iso_values.specs.States.{isolation_of, status_code_of, notify_of, processing_of, progress_of, is_external, is_pause}
use Rattle.iso_values.specs.Statuses.{dc_status_of}
use Rattle.word_tables.specs.Tables.{read}
use Rattle.word_tables.proofs.Held.{parts_read}
use Rattle.iso_tables.specs.Codes.{isolation, notification, status_code, response_code, step, wanted_mode, offered_mode, charge_progress, external, pause}
use Rattle.iso_tables.specs.Values.{current, voltage, power, ac_status, status_rows, status_of, dc_status}

-- ---- physical values

abbrev value_inside : PhysicalValue → Inside
value_inside v = holding (physical_value_parts v)

units_read : (u : UnitSymbol) → ((unit_symbol_ordinal u == 4) ≡ is_volt u) × ((unit_symbol_ordinal u == 3) ≡ is_ampere u) × ((unit_symbol_ordinal u == 5) ≡ is_watt u)
units_read unit.H = (refl, refl, refl)
units_read other = (refl, refl, refl)

pub voltage_read : (v : PhysicalValue) → read voltage (holding (physical_value_parts v)) ≡ voltage_in v
voltage_read v = ap (in_tenths v.multiplier v.value) (units_read v.unit).0

pub current_read : (v : PhysicalValue) → read current (holding (physical_value_parts v)) ≡ current_in v
current_read v = ap (in_tenths v.multiplier v.value) (units_read v.unit).1

pub power_read : (v : PhysicalValue) → read power (holding (physical_value_parts v)) ≡ power_in v
power_read v = ap (in_watts v.multiplier v.value) (units_read v.unit).2

-- where there is one
pub voltages_read : (v : Option PhysicalValue)
    → option_map (λ i. read voltage i) (head (kept_if true (mapped (λ x. holding (physical_value_parts x)) v) [])) ≡ option_map voltage_in v
voltages_read v = reads_if (λ i. read voltage i) value_inside voltage_in voltage_read v

pub currents_read : (v : Option PhysicalValue)
    → option_map (λ i. read current i) (head (kept_if true (mapped (λ x. holding (physical_value_parts x)) v) [])) ≡ option_map current_in v
currents_read v = reads_if (λ i. read current i) value_inside current_in current_read v

pub powers_read : (v : Option PhysicalValue)
    → option_map (λ i. read power i) (head (kept_if true (mapped (λ x. holding (physical_value_parts x)) v) [])) ≡ option_map power_in v
powers_read v = reads_if (λ i. read power i) value_inside power_in power_read v

-- ---- enumerations

pub code_read : (c : ResponseCode) → read response_code (Of (Ordinal (response_code_ordinal c))) ≡ code_of c
code_read iso_code.Failed = refl
code_read other = refl

pub step_read : (p : EvseProcessing) → read step (Of (Ordinal (evse_processing_ordinal p))) ≡ processing_of p
step_read iso_processing.Finished = refl
step_read other = refl

pub mode_read : (m : EnergyTransferMode) → read wanted_mode (Of (Ordinal (energy_transfer_mode_ordinal m))) ≡ mode_of m
mode_read iso_mode.DcCore = refl
mode_read other = refl

pub offered_read : (m : EnergyTransferMode) → read offered_mode (Of (Ordinal (energy_transfer_mode_ordinal m))) ≡ offered_of m
offered_read iso_mode.DcCore = refl
offered_read other = refl

pub progress_read : (p : ChargeProgress) → read charge_progress (Of (Ordinal (charge_progress_ordinal p))) ≡ progress_of p
progress_read iso_progress.Start = refl
progress_read other = refl

pub external_read : (p : PaymentOption) → read external (Of (Ordinal (payment_option_ordinal p))) ≡ is_external p
external_read iso_payment.Contract = refl
external_read other = refl

pub pause_read : (s : ChargingSession) → read pause (Of (Ordinal (charging_session_ordinal s))) ≡ is_pause s
pause_read iso_session.Terminate = refl
pause_read other = refl

level_read : (l : IsoLevel) → read isolation (Of (Ordinal (isolation_level_ordinal l))) ≡ isolation_of l
level_read iso_level.Valid = refl
level_read other = refl

status_code_read : (c : EvseStatusCode) → read status_code (Of (Ordinal (evse_status_code_ordinal c))) ≡ status_code_of c
status_code_read iso_status.EvseReady = refl
status_code_read other = refl

notify_read : (n : EvseNotification) → read notification (Of (Ordinal (evse_notification_ordinal n))) ≡ notify_of n
notify_read iso_notify.StopCharging = refl
notify_read other = refl

-- ---- statuses of posts

pub ac_status_read : (s : AcEvseStatus) → read ac_status (holding (ac_evse_status_parts s)) ≡ notify_of s.evse_notification
ac_status_read s = notify_read s.evse_notification

pub status_read : (s : DcEvseStatus) → read dc_status (holding (dc_evse_status_parts s)) ≡ dc_status_of s
status_read s =
    let made : Notify → Option IsolationLevel → StatusCode → DcStatus = λ n i c. record { notify = n; isolation = i; code = c } in
    ap status_of (parts_read status_rows (dc_evse_status_parts s))
    ∙ (ap made (notify_read s.evse_notification)
    ⊛ reads_if (λ i. read isolation i) (λ x. Of (Ordinal (isolation_level_ordinal x))) isolation_of level_read s.evse_isolation_status
    ⊛ status_code_read s.evse_status_code)
