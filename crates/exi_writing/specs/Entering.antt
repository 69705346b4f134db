-- W3C EXI 1.0 (Second Edition) 7.3.3: what the string table needs for a text, and what stands for one that it has.
use Rattle.std.specs.Prelude.{◌≡◌, ℕ, ◌<◌, ◌≤◌, Bool, List, [], ◌∷◌, ◌++◌, length}
use Rattle.exi_spec.specs.Items.{shortest_unsigned}
use Rattle.exi_reading.specs.Table.{global_of, local_of}
use Rattle.exi_reading.specs.Texts.{IsAbsent, WritesText}
use Rattle.exi_reading.specs.Trees.{Value, Truth, Ordinal, Number, Bytes, Text}
use Rattle.exi_reading.specs.Values.{Entries, most_entries, SpellsCode}

-- a text that isn't empty and stands in neither partition is one more entry
abbrev pub HasEntryFor : Entries → ℕ → Value → Type 0
HasEntryFor entries name (Truth truth) = Unit {0}
HasEntryFor entries name (Ordinal ordinal) = Unit {0}
HasEntryFor entries name (Number v) = Unit {0}
HasEntryFor entries name (Bytes bytes) = Unit {0}
HasEntryFor entries name (Text []) = Unit {0}
HasEntryFor entries name (Text (char ∷ chars)) =
    IsAbsent (local_of name entries) (char ∷ chars) → IsAbsent (global_of entries) (char ∷ chars) → length entries < most_entries

-- an index of `count`, behind the number that announces it
abbrev pub SpellsHitAt : ℕ → ℕ → ℕ → List Bool → Type 0
SpellsHitAt announced count index bits =
    (rest : List Bool) × SpellsCode count index rest × (bits ≡ shortest_unsigned announced ++ rest)

-- a text as it is written, into a table of no more entries than a document may have
abbrev pub WritesTextInto : Entries → ℕ → List ℕ → List Bool → Entries → Type 0
WritesTextInto entries name text bits after = WritesText entries name text bits after × (length after ≤ most_entries)
