-- W3C EXI 1.0 (Second Edition) 7.1.9, n-bit Unsigned Integer: the most significant bit comes first.
use Rattle.std.specs.Prelude.{ℕ, zero, suc, ◌+◌, ◌/◌, ◌%◌, ◌^◌, Bool, ◌==◌, if◌then◌else◌, List, [], ◌∷◌, ◌++◌, length}

-- a number in n bits
unfoldable pub number_bits : ℕ → ℕ → List Bool
number_bits zero v = []
number_bits (suc n) v = (v / 2 ^ n % 2 == 1) ∷ number_bits n v

-- the number that bits stand for
unfoldable pub number_of : List Bool → ℕ
number_of [] = 0
number_of (bit ∷ bits) = (if bit then 2 ^ length bits else 0) + number_of bits

-- all bits of bytes: bit 0 is the highest of the first byte
unfoldable pub bits_of : List ℕ → List Bool
bits_of [] = []
bits_of (byte ∷ bytes) = number_bits 8 byte ++ bits_of bytes
