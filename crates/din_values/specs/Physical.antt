-- DIN SPEC 70121:2014, PhysicalValueType: a number and perhaps its unit. Each place of a message wants one unit, and an absent one is
-- right. That no unit is written of a right one, and h of another one, is own.
use Rattle.std.specs.Prelude.{Bool, true, false, Option, Some, None, ℤ, pos}
use Rattle.std.specs.Option.{option_map}
use Rattle.din_parts.specs.declared.enumerations.UnitSymbol.{UnitSymbol}
use Rattle.din_parts.specs.declared.enumerations.UnitSymbol.TheVariants as unit
use Rattle.din_parts.specs.declared.values.PhysicalValue.{PhysicalValue}
use Rattle.session_words.specs.Amounts.{above_zero}
use Rattle.session_words.specs.declared.amount.Amount.{Amount}
use Rattle.word_values.specs.declared.amounts.Written.{Written}
use Rattle.word_values.specs.Amounts.{in_tenths, in_watts, written_tenths, written_watts}

-- ---- as amounts

abbrev pub is_volt : Option UnitSymbol → Bool
is_volt None = true
is_volt (Some unit.V) = true
is_volt (Some other) = false

abbrev pub is_ampere : Option UnitSymbol → Bool
is_ampere None = true
is_ampere (Some unit.A) = true
is_ampere (Some other) = false

abbrev pub is_watt : Option UnitSymbol → Bool
is_watt None = true
is_watt (Some unit.W) = true
is_watt (Some other) = false

-- a voltage in tenths of a volt
abbrev pub voltage_in : PhysicalValue → Amount
voltage_in v = in_tenths v.multiplier v.value (is_volt v.unit)

-- a current in tenths of an ampere
abbrev pub current_in : PhysicalValue → Amount
current_in v = in_tenths v.multiplier v.value (is_ampere v.unit)

-- a power in watts
abbrev pub power_in : PhysicalValue → Amount
power_in v = in_watts v.multiplier v.value (is_watt v.unit)

-- the power of a schedule or a profile: whole watts without a unit
abbrev pub watts_in : ℤ → Amount
watts_in v = record { size = above_zero v; right = true }

-- ---- as written

abbrev pub unit_if : Bool → Option UnitSymbol
unit_if true = None
unit_if false = Some unit.H

abbrev pub physical : Written → Bool → PhysicalValue
physical written right = record { multiplier = written.multiplier; unit = unit_if right; value = written.value }

abbrev pub tenths_of : Amount → PhysicalValue
tenths_of amount = physical (written_tenths amount.size) amount.right

abbrev pub power_of : Amount → PhysicalValue
power_of amount = physical (written_watts amount.size) amount.right

abbrev pub watts_of : Amount → ℤ
watts_of amount = pos amount.size

-- ---- where there is one

abbrev pub tenths_if : Option Amount → Option PhysicalValue
tenths_if amount = option_map tenths_of amount

abbrev pub power_if : Option Amount → Option PhysicalValue
power_if amount = option_map power_of amount
