-- What the tables read of values of a message, and of its parts, is what the functions of `din_values` make of them.
use Rattle.std.proofs.Common.{◌≡◌, ℕ, true, [], Option, Some, None, refl, ◌∙◌, ap}
use Rattle.std.specs.Option.{option_map}
use Rattle.charge_world.specs.declared.heard.IsolationLevel.{IsolationLevel}
use Rattle.exi_documents.specs.Trees.{Ordinal}
use Rattle.message_parts.specs.Contents.{Inside, Of, mapped, holding}
use Rattle.session_words.specs.declared.amount.Amount.{Amount}
use Rattle.session_words.specs.declared.code.Notify.{Notify}
use Rattle.session_words.specs.declared.code.StatusCode.{StatusCode}
use Rattle.session_words.specs.declared.limits.DcStatus.{DcStatus}
use Rattle.tree_words.specs.Leaves.{ordinal_in, natural_in}
use Rattle.tree_words.specs.Named.{head, children}
use Rattle.tree_words.proofs.Held.{kept_if, children_held}
use Rattle.tree_words.proofs.Lists.{reads_if, ◌⊛◌}
use Rattle.word_values.specs.Amounts.{in_tenths, in_watts}
use Rattle.din_parts.specs.Enumerations.{unit_symbol_ordinal, isolation_level_ordinal, evse_status_code_ordinal, evse_notification_ordinal}
use Rattle.din_parts.specs.Codes.{response_code_ordinal, payment_option_ordinal, energy_transfer_mode_ordinal, supported_energy_transfer_type_ordinal, evse_processing_ordinal}
use Rattle.din_parts.specs.Values.{physical_value_parts, dc_ev_status_parts, dc_evse_status_parts}
use Rattle.din_parts.specs.declared.codes.EnergyTransferMode.{EnergyTransferMode}
use Rattle.din_parts.specs.declared.codes.EnergyTransferMode.TheVariants as din_mode
use Rattle.din_parts.specs.declared.codes.EvseProcessing.{EvseProcessing}
use Rattle.din_parts.specs.declared.codes.EvseProcessing.TheVariants as din_processing
use Rattle.din_parts.specs.declared.codes.PaymentOption.{PaymentOption}
use Rattle.din_parts.specs.declared.codes.PaymentOption.TheVariants as din_payment
use Rattle.din_parts.specs.declared.codes.ResponseCode.{ResponseCode}
use Rattle.din_parts.specs.declared.codes.ResponseCode.TheVariants as din_code
use Rattle.din_parts.specs.declared.codes.SupportedEnergyTransferType.{SupportedEnergyTransferType}
use Rattle.din_parts.specs.declared.codes.SupportedEnergyTransferType.TheVariants as din_offered
use Rattle.din_parts.specs.declared.enumerations.EvseNotification.{EvseNotification}
use Rattle.din_parts.specs.declared.enumerations.EvseNotification.TheVariants as din_notify
use Rattle.din_parts.specs.declared.enumerations.EvseStatusCode.{EvseStatusCode}
use Rattle.din_parts.specs.declared.enumerations.EvseStatusCode.TheVariants as din_status
use Rattle.din_parts.specs.declared.enumerations.IsolationLevel.{IsolationLevel as DinLevel}
use Rattle.din_parts.specs.declared.enumerations.IsolationLevel.TheVariants as din_level
use Rattle.din_parts.specs.declared.enumerations.UnitSymbol.{UnitSymbol}
use Rattle.din_parts.specs.declared.enumerations.UnitSymbol.TheVariants as unit
use Rattle.din_parts.specs.declared.values.DcEvStatus.{DcEvStatus}
use Rattle.din_parts.specs.declared.values.DcEvseStatus.{DcEvseStatus}
use Rattle.din_parts.specs.declared.values.PhysicalValue.{PhysicalValue}
use Rattle.din_values.specs.Codes.{code_of}
use Rattle.din_values.specs.Modes.{mode_of, offered_of}
use Rattle.din_values.specs.Physical.{is_volt, is_ampere, is_watt, voltage_in, current_in, power_in}
use Rattle.din_values.specs.States.{isolation_of, status_code_of, notify_of, processing_of, is_external}
use Rattle.din_values.specs.Statuses.{dc_status_of}
use Rattle.din_schema.specs.declared.names.TheConstants.{EVRESS_SOC}
use Rattle.word_tables.specs.Tables.{or_empty, read}
use Rattle.word_tables.proofs.Held.{parts_read}
use Rattle.din_tables.specs.Codes.{isolation, notification, status_code, response_code, step, wanted_mode, offered_mode, external}
use Rattle.din_tables.specs.Values.{Physical, is_right, physical_rows, current, voltage, power, status_rows, status_of, post_status}

-- ---- physical values

abbrev value_inside : PhysicalValue → Inside
value_inside v = holding (physical_value_parts v)

abbrev unit_found : Option UnitSymbol → Option ℕ
unit_found u = option_map (λ i. ordinal_in i) (head (kept_if true (mapped (λ x. Of (Ordinal (unit_symbol_ordinal x))) u) []))

units_read : (u : Option UnitSymbol) → (is_right 5 (unit_found u) ≡ is_volt u) × (is_right 3 (unit_found u) ≡ is_ampere u) × (is_right 7 (unit_found u) ≡ is_watt u)
units_read None = (refl, refl, refl)
units_read (Some unit.H) = (refl, refl, refl)
units_read (Some other) = (refl, refl, refl)

abbrev tenths_by : ℕ → Physical → Amount
tenths_by unit p = in_tenths p.0 p.1.1.0 (is_right unit p.1.0)

pub voltage_read : (v : PhysicalValue) → read voltage (holding (physical_value_parts v)) ≡ voltage_in v
voltage_read v =
    ap (tenths_by 5) (parts_read physical_rows (physical_value_parts v)) ∙ ap (in_tenths v.multiplier v.value) (units_read v.unit).0

pub current_read : (v : PhysicalValue) → read current (holding (physical_value_parts v)) ≡ current_in v
current_read v =
    ap (tenths_by 3) (parts_read physical_rows (physical_value_parts v)) ∙ ap (in_tenths v.multiplier v.value) (units_read v.unit).1

pub power_read : (v : PhysicalValue) → read power (holding (physical_value_parts v)) ≡ power_in v
power_read v =
    ap (λ (p : Physical). in_watts p.0 p.1.1.0 (is_right 7 p.1.0)) (parts_read physical_rows (physical_value_parts v))
    ∙ ap (in_watts v.multiplier v.value) (units_read v.unit).2

-- where there is one
pub voltages_read : (v : Option PhysicalValue)
    → option_map (λ i. read voltage i) (head (kept_if true (mapped (λ x. holding (physical_value_parts x)) v) [])) ≡ option_map voltage_in v
voltages_read v = reads_if (λ i. read voltage i) value_inside voltage_in voltage_read v

pub currents_read : (v : Option PhysicalValue)
    → option_map (λ i. read current i) (head (kept_if true (mapped (λ x. holding (physical_value_parts x)) v) [])) ≡ option_map current_in v
currents_read v = reads_if (λ i. read current i) value_inside current_in current_read v

pub powers_read : (v : Option PhysicalValue)
    → option_map (λ i. read power i) (head (kept_if true (mapped (λ x. holding (physical_value_parts x)) v) [])) ≡ option_map power_in v
powers_read v = reads_if (λ i. read power i) value_inside power_in power_read v

-- ---- enumerations

pub code_read : (c : ResponseCode) → read response_code (Of (Ordinal (response_code_ordinal c))) ≡ code_of c
code_read din_code.Failed = refl
code_read other = refl

pub step_read : (p : EvseProcessing) → read step (Of (Ordinal (evse_processing_ordinal p))) ≡ processing_of p
step_read din_processing.Finished = refl
step_read other = refl

pub mode_read : (m : EnergyTransferMode) → read wanted_mode (Of (Ordinal (energy_transfer_mode_ordinal m))) ≡ mode_of m
mode_read din_mode.DcCore = refl
mode_read other = refl

pub offered_read : (m : SupportedEnergyTransferType) → read offered_mode (Of (Ordinal (supported_energy_transfer_type_ordinal m))) ≡ offered_of m
offered_read din_offered.DcCore = refl
offered_read other = refl

pub external_read : (p : PaymentOption) → read external (Of (Ordinal (payment_option_ordinal p))) ≡ is_external p
external_read din_payment.Contract = refl
external_read other = refl

level_read : (l : DinLevel) → read isolation (Of (Ordinal (isolation_level_ordinal l))) ≡ isolation_of l
level_read din_level.Valid = refl
level_read other = refl

status_code_read : (c : EvseStatusCode) → read status_code (Of (Ordinal (evse_status_code_ordinal c))) ≡ status_code_of c
status_code_read din_status.EvseReady = refl
status_code_read other = refl

notify_read : (n : EvseNotification) → read notification (Of (Ordinal (evse_notification_ordinal n))) ≡ notify_of n
notify_read din_notify.StopCharging = refl
notify_read other = refl

-- ---- statuses

pub status_read : (s : DcEvseStatus) → read post_status (holding (dc_evse_status_parts s)) ≡ dc_status_of s
status_read s =
    let made : Option IsolationLevel → StatusCode → Notify → DcStatus = λ i c n. record { isolation = i; code = c; notify = n } in
    ap status_of (parts_read status_rows (dc_evse_status_parts s))
    ∙ (ap made (reads_if (λ i. read isolation i) (λ x. Of (Ordinal (isolation_level_ordinal x))) isolation_of level_read s.evse_isolation_status)
    ⊛ status_code_read s.evse_status_code ⊛ notify_read s.evse_notification)

-- how full a car is stands behind what may be absent
pub charge_read : (s : DcEvStatus) → natural_in (or_empty (head (children (holding (dc_ev_status_parts s)) EVRESS_SOC))) ≡ s.evress_soc
charge_read s = ap (λ c. natural_in (or_empty (head (c EVRESS_SOC)))) (children_held [] (dc_ev_status_parts s))
