-- Own: what makes spellings a code that is read in one way only.
use Rattle.std.specs.Prelude.{◌≡◌, ℕ, ◌≤◌, ◌⊎◌, Bool, List, ◌++◌, length}
use Rattle.exi_spec.specs.declared.BitCause.{BitCause}
use Rattle.exi_spec.specs.Items.{SpellsUnsigned, SpellsBytes, SpellsChars, Begins, shortest_unsigned}

-- two spellings that begin one list of bits are one spelling of one value; each list of bits begins with a
-- spelling or has a refusal, not both, and one refusal only
pub record IsExact {V R : Type 0} (Spells : V → List Bool → Type 0) (Refuses : List Bool → R → Type 0) : Type 0 where
  pub prefix : (v w : V) (a b x y : List Bool) → Spells v a → Spells w b → a ++ x ≡ b ++ y → (a ≡ b) × (v ≡ w)
  pub decided : (bits : List Bool) → ((v : V) × Begins (Spells v) bits) ⊎ ((r : R) × Refuses bits r)
  pub apart : (v : V) (bits : List Bool) (r : R) → Begins (Spells v) bits → Refuses bits r → ⊥
  pub one_refusal : (bits : List Bool) (r s : R) → Refuses bits r → Refuses bits s → r ≡ s

-- a refusal at a bit of the item
abbrev pub AtBit : (List Bool → BitCause → ℕ → Type 0) → List Bool → BitCause × ℕ → Type 0
AtBit Refuses bits refusal = Refuses bits refusal.0 refusal.1

abbrev pub SpellsNBytes : ℕ → List ℕ → List Bool → Type 0
SpellsNBytes n bytes bits = (length bytes ≡ n) × SpellsBytes bytes bits

abbrev pub SpellsNChars : ℕ → List ℕ → List Bool → Type 0
SpellsNChars n chars bits = (length chars ≡ n) × SpellsChars chars bits

-- the shortest spelling is one, and no other is shorter
pub record IsShortest (value : ℕ) : Type 0 where
  pub spelled : SpellsUnsigned value (shortest_unsigned value)
  pub least : (bits : List Bool) → SpellsUnsigned value bits → length (shortest_unsigned value) ≤ length bits
