-- Own: the items at the front of bits as plain functions, for what a text or a Binary contains.
use Rattle.std.specs.Prelude.{ℕ, zero, suc, ◌+◌, ◌-◌, ◌*◌, ◌^◌, nat_lt, if◌then◌else◌, Bool, List, [], ◌∷◌, length, take, drop, Result, Ok, Err}
use Rattle.exi_spec.specs.Bits.{number_of}
use Rattle.exi_spec.specs.declared.BitCause.{BitCause}
use Rattle.exi_spec.specs.declared.BitCause.TheVariants.{ShortInput, WiderInteger}

-- what is read with a group in front
unfoldable pub behind_group : ℕ → Result (ℕ × List Bool) BitCause → Result (ℕ × List Bool) BitCause
behind_group group (Ok read) =
    if nat_lt (group + 128 * read.0) (2 ^ 64) then Ok (group + 128 * read.0, read.1) else Err WiderInteger
behind_group group (Err cause) = Err cause

-- the Unsigned Integer at the front, of at most so many octets, and the bits behind it
unfoldable pub octets_in : ℕ → List Bool → Result (ℕ × List Bool) BitCause
octets_in zero bits = Err WiderInteger
octets_in (suc most) bits =
    if nat_lt (length bits) 8 then Err ShortInput
    else if nat_lt (number_of (take 8 bits)) 128 then Ok (number_of (take 8 bits), drop 8 bits)
    else behind_group (number_of (take 8 bits) - 128) (octets_in most (drop 8 bits))

unfoldable pub first_char : (List Bool → List ℕ) → Result (ℕ × List Bool) BitCause → List ℕ
first_char more (Ok read) = read.0 ∷ more read.1
first_char more (Err cause) = []

-- the n code points at the front
unfoldable pub chars_in : ℕ → List Bool → List ℕ
chars_in zero bits = []
chars_in (suc n) bits = first_char (λ rest. chars_in n rest) (octets_in 10 bits)

-- the n bytes at the front
unfoldable pub bytes_in : ℕ → List Bool → List ℕ
bytes_in zero bits = []
bytes_in (suc n) bits = number_of (take 8 bits) ∷ bytes_in n (drop 8 bits)
