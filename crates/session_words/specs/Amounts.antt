-- ISO 15118-2:2014, PhysicalValueType: the number Value times ten to the Multiplier. What follows of how it counts is own.
use Rattle.std.specs.Prelude.{ℕ, ◌+◌, ◌*◌, ◌/◌, ◌^◌, ◌<◌, ◌≤◌, min, ℤ, pos, negsuc, ◌+ℤ◌, ◌≤ℤ◌}

-- a number below 0 counts as 0
abbrev pub above_zero : ℤ → ℕ
above_zero (pos n) = n
above_zero (negsuc n) = 0

pub record IsMultiplier (m : ℤ) : Type 0 where
  pub least : negsuc 2 ≤ℤ m
  pub most : m ≤ℤ pos 3

-- how many thousandths a physical value has
abbrev pub thousandths_of : ℤ → ℤ → ℕ
thousandths_of multiplier value = above_zero value * 10 ^ above_zero (multiplier +ℤ pos 3)

-- n is the greatest number of parts of that size that the whole has
pub record IsPartsOf (whole size n : ℕ) : Type 0 where
  pub held : size * n ≤ whole
  pub most : whole < size * (n + 1)

-- the whole tenths of a physical value
abbrev pub tenths_of : ℤ → ℤ → ℕ
tenths_of multiplier value = thousandths_of multiplier value / 100

abbrev pub IsTenths : ℤ → ℤ → ℕ → Type 0
IsTenths multiplier value = IsPartsOf (thousandths_of multiplier value) 100

-- the whole units of a physical value
abbrev pub units_of : ℤ → ℤ → ℕ
units_of multiplier value = thousandths_of multiplier value / 1000

abbrev pub IsUnits : ℤ → ℤ → ℕ → Type 0
IsUnits multiplier value = IsPartsOf (thousandths_of multiplier value) 1000

-- the whole watts of a voltage and a current in tenths: their product has hundredths of a watt
abbrev pub dc_watts_of : ℕ → ℕ → ℕ
dc_watts_of voltage current = voltage * current / 100

abbrev pub IsDcWatts : ℕ → ℕ → ℕ → Type 0
IsDcWatts voltage current = IsPartsOf (voltage * current) 100

-- the whole watts of a current in tenths at a nominal voltage in volts over so many phases
abbrev pub ac_watts_of : ℕ → ℕ → ℕ → ℕ
ac_watts_of current nominal phases = current * nominal * phases / 10

abbrev pub IsAcWatts : ℕ → ℕ → ℕ → ℕ → Type 0
IsAcWatts current nominal phases = IsPartsOf (current * nominal * phases) 10

-- the greatest current in tenths, up to 30,000, whose watts are within these
pub record IsAcCurrent (watts nominal phases n : ℕ) : Type 0 where
  pub bound : n ≤ 30000
  pub held : n * nominal * phases ≤ 10 * watts
  pub most : n < 30000 → 10 * watts < (n + 1) * nominal * phases

abbrev pub ac_current_of : ℕ → ℕ → ℕ → ℕ
ac_current_of watts nominal phases = min 30000 (10 * watts / (nominal * phases))

-- watts as a message writes them: by the least Multiplier from 0 whose Value, rounded down, is at most 32,767
pub record IsWrittenWatts (watts multiplier value : ℕ) : Type 0 where
  pub value_is : IsPartsOf watts (10 ^ multiplier) value
  pub fits : value ≤ 32767
  pub least : (k : ℕ) → k < multiplier → 32768 * 10 ^ k ≤ watts
