-- Own: what the declarations of both dialects can spell: amounts such that a Value of 16 bits with a sign and a Multiplier write them, and
-- numbers and lists within their bounds.
use Rattle.std.specs.Prelude.{ℕ, ◌<◌, ◌≤◌, IsTrue, All, length}
use Rattle.arrayvec.specs.ArrayVec.{ArrayVec}
use Rattle.session_words.specs.declared.amount.Amount.{Amount}
use Rattle.session_words.specs.declared.limits.Tuple.{Tuple}
use Rattle.session_words.specs.declared.session.SessionId.{SessionId}
use Rattle.word_values.specs.Amounts.{can_write_tenths}

-- tenths that some Multiplier from -1 to 3 gives exactly
abbrev pub AreTenths : Amount → Type 0
AreTenths amount = IsTrue (can_write_tenths amount.size)

-- watts that a Value and a Multiplier up to 3 write, but for what is dropped
abbrev pub AreWatts : Amount → Type 0
AreWatts amount = amount.size < 32768000

abbrev pub IsByte : ℕ → Type 0
IsByte byte = byte < 256

abbrev pub IsService : ℕ → Type 0
IsService number = number ≤ 65535

abbrev pub IsCharge : ℕ → Type 0
IsCharge soc = soc ≤ 100

abbrev pub IsFromTo : ℕ → ℕ → ℕ → Type 0
IsFromTo least most n = (least ≤ n) × (n ≤ most)

-- so many bytes at most
abbrev pub AreBytes : ℕ → ArrayVec ℕ → Type 0
AreBytes most bytes = (length bytes.items ≤ most) × All IsByte bytes.items

abbrev pub AreServices : ArrayVec ℕ → Type 0
AreServices services = IsFromTo 1 16 (length services.items) × All IsService services.items

-- one to three schedules, each of which can be spelled
abbrev pub AreTuples : (Tuple → Type 0) → ArrayVec Tuple → Type 0
AreTuples CanTuple tuples = IsFromTo 1 3 (length tuples.items) × All CanTuple tuples.items

abbrev pub CanSession : SessionId → Type 0
CanSession session = AreBytes 8 session.bytes
