-- ISO 15118-2:2014, PhysicalValueType: a number and its unit. Each place of a message wants one unit; that another one is written as h
-- is own.
use Rattle.std.specs.Prelude.{Bool, true, false, Option}
use Rattle.std.specs.Option.{option_map}
use Rattle.iso_parts.specs.declared.enumerations.UnitSymbol.{UnitSymbol}
use Rattle.iso_parts.specs.declared.enumerations.UnitSymbol.TheVariants as unit
use Rattle.iso_parts.specs.declared.values.PhysicalValue.{PhysicalValue}
use Rattle.session_words.specs.declared.amount.Amount.{Amount}
use Rattle.word_values.specs.declared.amounts.Written.{Written}
use Rattle.word_values.specs.Amounts.{in_tenths, in_watts, written_tenths, written_volts, written_watts}

-- ---- as amounts

abbrev pub is_volt : UnitSymbol → Bool
is_volt unit.V = true
is_volt other = false

abbrev pub is_ampere : UnitSymbol → Bool
is_ampere unit.A = true
is_ampere other = false

abbrev pub is_watt : UnitSymbol → Bool
is_watt unit.W = true
is_watt other = false

-- a voltage in tenths of a volt
abbrev pub voltage_in : PhysicalValue → Amount
voltage_in v = in_tenths v.multiplier v.value (is_volt v.unit)

-- a current in tenths of an ampere
abbrev pub current_in : PhysicalValue → Amount
current_in v = in_tenths v.multiplier v.value (is_ampere v.unit)

-- a power in watts
abbrev pub power_in : PhysicalValue → Amount
power_in v = in_watts v.multiplier v.value (is_watt v.unit)

-- ---- as written

-- the unit of a place, and h for another one
abbrev pub unit_if : Bool → UnitSymbol → UnitSymbol
unit_if true wanted = wanted
unit_if false wanted = unit.H

abbrev pub physical : Written → UnitSymbol → PhysicalValue
physical written unit = record { multiplier = written.multiplier; unit = unit; value = written.value }

abbrev pub voltage_of : Amount → PhysicalValue
voltage_of amount = physical (written_tenths amount.size) (unit_if amount.right unit.V)

-- a nominal voltage
abbrev pub nominal_of : Amount → PhysicalValue
nominal_of amount = physical (written_volts amount.size) (unit_if amount.right unit.V)

abbrev pub current_of : Amount → PhysicalValue
current_of amount = physical (written_tenths amount.size) (unit_if amount.right unit.A)

abbrev pub power_of : Amount → PhysicalValue
power_of amount = physical (written_watts amount.size) (unit_if amount.right unit.W)

-- ---- where there is one

abbrev pub voltage_if : Option Amount → Option PhysicalValue
voltage_if amount = option_map voltage_of amount

abbrev pub current_if : Option Amount → Option PhysicalValue
current_if amount = option_map current_of amount

abbrev pub power_if : Option Amount → Option PhysicalValue
power_if amount = option_map power_of amount
