-- Own: bits that are written into a room of bytes.
use Rattle.std.specs.Prelude.{◌≡◌, ℕ, ◌+◌, ◌*◌, ◌/◌, ◌<◌, ◌≤◌, Bool, false, List, ◌++◌, length, take, replicate, slice_index_or}
use Rattle.exi_spec.specs.Bits.{bits_of}

-- behind so many bits the others of a byte that is begun are 0
abbrev pub PadsZero : List ℕ → ℕ → Type 0
PadsZero room at = (k : ℕ) → at ≤ k → k < 8 * ((at + 7) / 8) → slice_index_or (bits_of room) k false ≡ false

-- these n bits are written behind so many others
pub record Extends (old new : List ℕ) (at n : ℕ) (bits : List Bool) : Type 0 where
  pub long : length bits ≡ n
  pub wrote : take (at + n) (bits_of new) ≡ take at (bits_of old) ++ bits
  pub clean : PadsZero new (at + n)

-- bytes of these bits, with 0 behind them up to a whole byte
pub record HoldsBits (bytes : List ℕ) (bits : List Bool) : Type 0 where
  pub pad : ℕ
  pub short : pad < 8
  pub there : bits_of bytes ≡ bits ++ replicate pad false

-- of these items those in front are written, and these are left
pub record PutsFront (spell : List ℕ → List Bool) (old new : List ℕ) (at n : ℕ) (items left : List ℕ) : Type 0 where
  pub front : List ℕ
  pub split : items ≡ front ++ left
  pub wrote : Extends old new at n (spell front)
