-- ISO 15118-2:2014, PhysicalValueType: the number Value times ten to the Multiplier, which is -3 to 3. How it counts and which
-- Multiplier is written is own.
use Rattle.std.specs.Prelude.{◌≡◌, ℕ, ◌/◌, ◌%◌, ◌==◌, ◌≤◌, min, nat_lt, nat_le, Bool, ◌&&◌, ◌||◌, if◌then◌else◌, ℤ, pos, negsuc, ◌≤ℤ◌}
use Rattle.session_words.specs.declared.amount.Amount.{Amount}
use Rattle.session_words.specs.Amounts.{above_zero, tenths_of, units_of, IsWrittenWatts}
use Rattle.word_values.specs.declared.amounts.Written.{Written}

-- ---- as amounts

-- the nearest Multiplier
abbrev pub nearest : ℤ → ℤ
nearest (pos n) = pos (min 3 n)
nearest (negsuc n) = negsuc (min 2 n)

abbrev pub in_tenths : ℤ → ℤ → Bool → Amount
in_tenths multiplier value right = record { size = tenths_of (nearest multiplier) value; right = right }

abbrev pub in_watts : ℤ → ℤ → Bool → Amount
in_watts multiplier value right = record { size = units_of (nearest multiplier) value; right = right }

-- ---- as written

abbrev pub written : ℤ → ℕ → Written
written multiplier value = record { multiplier = multiplier; value = pos value }

-- they are a whole number of parts of this size, and no more of them than a Value can say
abbrev pub is_whole : ℕ → ℕ → Bool
is_whole size part = (size % part == 0) && nat_le (size / part) 32767

-- some Multiplier from -1 to 3 gives these tenths exactly
abbrev pub can_write_tenths : ℕ → Bool
can_write_tenths size = is_whole size 1 || is_whole size 10 || is_whole size 100 || is_whole size 1000 || is_whole size 10000

-- by the least such Multiplier
abbrev pub written_tenths : ℕ → Written
written_tenths size =
    if is_whole size 1 then written (negsuc 0) size else (
    if is_whole size 10 then written (pos 0) (size / 10) else (
    if is_whole size 100 then written (pos 1) (size / 100) else (
    if is_whole size 1000 then written (pos 2) (size / 1000) else written (pos 3) (size / 10000))))

-- a nominal voltage: by Multiplier 0 where that gives it exactly
abbrev pub written_volts : ℕ → Written
written_volts size = if is_whole size 10 then written (pos 0) (size / 10) else written_tenths size

-- what is written counts as these tenths, and by no smaller Multiplier from -1 does a Value
pub record IsWrittenTenths (size : ℕ) (w : Written) : Type 0 where
  pub exact : tenths_of w.multiplier w.value ≡ size
  pub least : (m v : ℤ) → negsuc 0 ≤ℤ m → m ≤ℤ pos 3 → v ≤ℤ pos 32767 → tenths_of m v ≡ size → w.multiplier ≤ℤ m

-- watts by the least Multiplier from 0 whose Value, rounded down, is at most 32,767
abbrev pub written_watts : ℕ → Written
written_watts watts =
    if nat_lt watts 32768 then written (pos 0) watts else (
    if nat_lt watts 327680 then written (pos 1) (watts / 10) else (
    if nat_lt watts 3276800 then written (pos 2) (watts / 100) else written (pos 3) (watts / 1000)))

abbrev pub IsWritten : ℕ → Written → Type 0
IsWritten watts w = IsWrittenWatts watts (above_zero w.multiplier) (above_zero w.value)
