-- Own: a text or a Binary as the bits that spell it.
use Rattle.std.specs.Prelude.{◌≡◌, ◌≤◌, ◌<◌, ◌/◌, ◌%◌, ◌^◌, ℕ, Bool, true, false, List, [], ◌∷◌, length, drop}
use Rattle.std.specs.List.{AllByRecursion}
use Rattle.exi_spec.specs.Items.{SpellsChars, SpellsBytes, Begins}
use Rattle.exi_spec.specs.Plain.{chars_in, bytes_in}
use Rattle.exi_bits.specs.declared.span.SpanAt.{SpanAt}

-- of all bits those from `bit` on: `count` code points of a text, or bytes of a Binary
pub record Span : Type 0 where
  pub bits : List Bool
  pub bit : ℕ
  pub count : ℕ
  pub is_text : Bool

abbrev pub SpellsItems : Bool → List ℕ → List Bool → Type 0
SpellsItems true items bits = SpellsChars items bits
SpellsItems false items bits = SpellsBytes items bits

-- these code points or bytes are spelled there
pub record Holds (span : Span) (items : List ℕ) : Type 0 where
  pub within : span.bit ≤ length span.bits
  pub long : length items ≡ span.count
  pub spelled : Begins (SpellsItems span.is_text items) (drop span.bit span.bits)

-- a text or a Binary is spelled there
abbrev pub IsSpan : Span → Type 0
IsSpan span = (items : List ℕ) × Holds span items

abbrev pub items_in : Bool → ℕ → List Bool → List ℕ
items_in true n bits = chars_in n bits
items_in false n bits = bytes_in n bits

-- the code points or bytes
abbrev pub items_of : Span → List ℕ
items_of span = items_in span.is_text span.count (drop span.bit span.bits)

-- the text at a place
abbrev pub text_at : List Bool → SpanAt → Span
text_at bits at = record { bits = bits; bit = at.bit; count = at.chars; is_text = true }

-- the octets of a number of 32 bits, the highest first
abbrev pub four_octets : ℕ → List ℕ
four_octets word = word / 2 ^ 24 ∷ word / 2 ^ 16 % 2 ^ 8 ∷ word / 2 ^ 8 % 2 ^ 8 ∷ word % 2 ^ 8 ∷ []

-- of items each of which one octet spells with no other behind it
abbrev pub AreAscii : List ℕ → Type 0
AreAscii items = AllByRecursion (λ item. item < 128) items
