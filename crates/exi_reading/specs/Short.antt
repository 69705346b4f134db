-- Own: what a value of few bits is.
use Rattle.std.specs.Prelude.{ℕ, ◌≤◌, Bool, List, length, FitsSigned}
use Rattle.std.specs.Int.{w64}
use Rattle.exi_schema.specs.declared.tables.Datatype.{Datatype}
use Rattle.exi_values.specs.Trees.{Value, Truth, Ordinal, Number, Bytes, Text}
use Rattle.exi_values.specs.Values.{Entries, SpellsValue}
use Rattle.exi_reading.specs.declared.short.ShortValue.{ShortValue}
use Rattle.exi_reading.specs.declared.short.ShortValue.TheVariants as short

abbrev pub tree_of : ShortValue → Value
tree_of (short.Bool truth) = Truth truth
tree_of (short.Ordinal ordinal) = Ordinal ordinal
tree_of (short.Number v) = Number v

-- no text, no Binary, and no integer beyond 64 bits
abbrev pub IsShort : Value → Type 0
IsShort (Truth truth) = Unit {0}
IsShort (Ordinal ordinal) = Unit {0}
IsShort (Number v) = FitsSigned w64 v
IsShort (Bytes bytes) = ⊥
IsShort (Text chars) = ⊥

-- such a value of a datatype is spelled by these bits, and there are some
pub record SpellsShort (datatype : Datatype) (value : Value) (bits : List Bool) : Type 0 where
  pub short : IsShort value
  pub some : 1 ≤ length bits
  pub spelled : (entries : Entries) (name : ℕ) → SpellsValue datatype entries name value bits entries

-- the most bits that are taken for one
abbrev pub most_bits : ℕ
most_bits = 25
