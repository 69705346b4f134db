-- Own: what the elements of a report contain, part by part.
use Rattle.std.specs.Prelude.{ℕ, pos, List, [], ◌∷◌, map}
use Rattle.exi_bits.specs.Lent.{items_of}
use Rattle.exi_documents.specs.Trees.{Truth, Ordinal, Number, Bytes, Tree}
use Rattle.message_parts.specs.Contents.{Inside, Of, Given, given, perhaps_given, Part, one, perhaps, each, perhaps_one, mapped, holding, holding_with, root_of}
use Rattle.message_parts.specs.Texts.{text_value}
use Rattle.parts_examples.specs.declared.names.TheConstants.{REPORT, NUMBER, REVISION, PLACE, SEAL, STATE, METER, PHASE, PULSES, ENERGY, TOTAL, OFFSET, POWER, REACTIVE, TIME, VALID, LOAD, REMARK, FLAG, STEP, SHORT, WHOLE, READING, WORD, SCALE, VALUE, AC_SUPPLY, DC_SUPPLY, VOLTAGE, CURRENT, ENDED, STOPPED, DAY, HOUR, CLOSED}
use Rattle.parts_examples.specs.declared.amounts.State.{State}
use Rattle.parts_examples.specs.declared.amounts.State.TheVariants as state
use Rattle.parts_examples.specs.declared.amounts.Reading.{Reading}
use Rattle.parts_examples.specs.declared.amounts.Amount.{Amount}
use Rattle.parts_examples.specs.declared.amounts.Amount.TheVariants as amount
use Rattle.parts_examples.specs.declared.amounts.AcSupply.{AcSupply}
use Rattle.parts_examples.specs.declared.amounts.DcSupply.{DcSupply}
use Rattle.parts_examples.specs.declared.amounts.Supply.{Supply}
use Rattle.parts_examples.specs.declared.amounts.Supply.TheVariants as supply
use Rattle.parts_examples.specs.declared.amounts.Stopped.{Stopped}
use Rattle.parts_examples.specs.declared.amounts.Cause.{Cause}
use Rattle.parts_examples.specs.declared.amounts.Cause.TheVariants as cause
use Rattle.parts_examples.specs.declared.meter.Meter.{Meter}
use Rattle.parts_examples.specs.declared.report.Day.{Day}
use Rattle.parts_examples.specs.declared.report.Report.{Report}

abbrev pub meter_parts : Meter → List Part
meter_parts v =
    one PHASE (Of (Number (pos v.phase)))
    ∷ one PULSES (Of (Number (pos v.pulses)))
    ∷ one ENERGY (Of (Number (pos v.energy)))
    ∷ one TOTAL (Of (Number (pos v.total)))
    ∷ one OFFSET (Of (Number v.offset))
    ∷ one POWER (Of (Number v.power))
    ∷ one REACTIVE (Of (Number v.reactive))
    ∷ one TIME (Of (Number v.time))
    ∷ one VALID (Of (Truth v.valid))
    ∷ perhaps LOAD (mapped (λ x. Of (Number (pos x))) v.load)
    ∷ []

abbrev pub state_ordinal : State → ℕ
state_ordinal state.Free = 0
state_ordinal state.Charging = 1
state_ordinal state.Broken = 2

-- ---- one of six

abbrev pub reading_parts : Reading → List Part
reading_parts v = one SCALE (Of (Number v.scale)) ∷ one VALUE (Of (Number v.value)) ∷ []

abbrev pub amount_name : Amount → ℕ
amount_name (amount.Flag flag) = FLAG
amount_name (amount.Step step) = STEP
amount_name (amount.Short short) = SHORT
amount_name (amount.Whole whole) = WHOLE
amount_name (amount.Reading reading) = READING
amount_name (amount.Word word) = WORD

abbrev pub amount_inside : Amount → Inside
amount_inside (amount.Flag flag) = Of (Truth flag)
amount_inside (amount.Step step) = Of (Number step)
amount_inside (amount.Short short) = Of (Number short)
amount_inside (amount.Whole whole) = Of (Number whole)
amount_inside (amount.Reading reading) = holding (reading_parts reading)
amount_inside (amount.Word word) = Of (text_value word)

-- ---- a group, and one that may be absent

abbrev pub ac_parts : AcSupply → List Part
ac_parts v = one PHASE (Of (Number (pos v.phase))) ∷ []

abbrev pub dc_parts : DcSupply → List Part
dc_parts v = one VOLTAGE (Of (Number (pos v.voltage))) ∷ perhaps CURRENT (mapped (λ x. Of (Number (pos x))) v.current) ∷ []

abbrev pub supply_name : Supply → ℕ
supply_name (supply.Ac ac) = AC_SUPPLY
supply_name (supply.Dc dc) = DC_SUPPLY

abbrev pub supply_inside : Supply → Inside
supply_inside (supply.Ac ac) = holding (ac_parts ac)
supply_inside (supply.Dc dc) = holding (dc_parts dc)

abbrev pub stopped_parts : Stopped → List Part
stopped_parts v = one STATE (Of (Ordinal (state_ordinal v.state))) ∷ []

abbrev pub cause_name : Cause → ℕ
cause_name (cause.Ended seconds) = ENDED
cause_name (cause.Stopped stopped) = STOPPED

abbrev pub cause_inside : Cause → Inside
cause_inside (cause.Ended seconds) = Of (Number (pos seconds))
cause_inside (cause.Stopped stopped) = holding (stopped_parts stopped)

-- ---- a report

abbrev pub day_parts : Day → List Part
day_parts v = each HOUR (map (λ x. Of (Number (pos x))) v.hours.items) ∷ []

abbrev pub report_given : Report → List Given
report_given v = given NUMBER (Number (pos v.number)) ∷ perhaps_given REVISION (mapped (λ x. Number (pos x)) v.revision) ∷ []

abbrev pub report_parts : Report → List Part
report_parts v =
    one PLACE (Of (text_value v.place))
    ∷ one SEAL (Of (Bytes (items_of v.seal.span)))
    ∷ one STATE (Of (Ordinal (state_ordinal v.state)))
    ∷ one METER (holding (meter_parts v.meter))
    ∷ perhaps REMARK (mapped (λ x. Of (text_value x)) v.remark)
    ∷ one (amount_name v.amount) (amount_inside v.amount)
    ∷ one (supply_name v.supply) (supply_inside v.supply)
    ∷ perhaps_one (mapped (λ x. (cause_name x, cause_inside x)) v.cause)
    ∷ each DAY (map (λ x. holding (day_parts x)) v.days.items)
    ∷ one CLOSED (holding [])
    ∷ []

abbrev pub report_inside : Report → Inside
report_inside v = holding_with (report_given v) (report_parts v)

abbrev pub report_tree : Report → Tree
report_tree v = root_of REPORT (report_inside v)
