-- Own: which encoding a text is scanned to, and where it is at fault.
use Rattle.std.specs.Prelude.{◌≡◌, ◌⊎◌, ℕ, ◌*◌, ◌<◌, ◌≤◌, Bool, List, ◌++◌, length, reverse}
use Rattle.std.specs.Str.{chars}
use Rattle.exi_schema.specs.Schemas.{PlainSchema}
use Rattle.exi_documents.specs.Documents.{SpellsDocument, IsEncoding}
use Rattle.exi_documents.specs.Trees.{Value, Truth, Ordinal, Number, Bytes, Text, Tree, Event, Document, Start, Attribute, Content, EndElement, document_events}
use Rattle.exi_documents.specs.Values.{WritesValue}
use Rattle.dialect_text.specs.Dialect.{IsDialectText, IsOfDialect, IsFault}
use Rattle.value_text.specs.declared.fault.ScanFault.{ScanFault}
use Rattle.value_text.specs.declared.fault.ScanFault.TheVariants.{Place, Memory}
use Rattle.tree_text.specs.TreeText.{IsTreeText}

-- a tree with this text has this encoding, of at most 65,536 bytes
abbrev pub IsEncodedText : PlainSchema → List ℕ → List ℕ → Type 0
IsEncodedText s text payload = (length payload ≤ 65536) × ((tree : Tree) × IsTreeText s tree text × IsEncoding s tree payload)

-- no tree with this text has an encoding of at most 65,536 bytes
abbrev pub HasNoEncoding : PlainSchema → List ℕ → Type 0
HasNoEncoding s text = (tree : Tree) (payload : List ℕ) → IsTreeText s tree text → IsEncoding s tree payload → length payload ≤ 65536 → ⊥

-- a text of the dialect and of no such tree is at fault behind its last character
abbrev pub IsUnencoded : PlainSchema → List ℕ → ℕ → Type 0
IsUnencoded s text place = IsOfDialect s text × HasNoEncoding s text × (place ≡ length (chars text))

-- want of memory comes freely
abbrev pub IsScanFault : PlainSchema → List ℕ → ScanFault → Type 0
IsScanFault s text (Place place) = IsFault s text place ⊎ IsUnencoded s text place
IsScanFault s text Memory = Unit {0}

-- ---- on the way

-- events, the newest first, with which no document of at most 65,536 bytes begins
abbrev pub IsStuck : PlainSchema → List Event → Type 0
IsStuck s events =
    (later : List Event) (number : ℕ) (tree : Tree) (bits : List Bool) → later ++ events ≡ reverse (document_events number tree) →
    SpellsDocument WritesValue s number tree bits → length bits ≤ 8 * 65536 → ⊥

-- a text of which these events were scanned is none of the dialect, or ends there
abbrev pub IsFaultBehind : PlainSchema → List ℕ → List Event → ScanFault → Type 0
IsFaultBehind s text events (Place place) =
    IsFault s text place ⊎ ((later : List Event) × IsDialectText s (later ++ events) text × (place ≡ length (chars text)))
IsFaultBehind s text events Memory = Unit {0}

abbrev pub IsLongBinary : Value → Type 0
IsLongBinary (Truth truth) = ⊥
IsLongBinary (Ordinal ordinal) = ⊥
IsLongBinary (Number v) = ⊥
IsLongBinary (Bytes bytes) = 65536 < length bytes
IsLongBinary (Text chars) = ⊥

-- a Binary is longer than a room
abbrev pub IsTooLong : Event → Type 0
IsTooLong (Document number) = ⊥
IsTooLong (Start name) = ⊥
IsTooLong (Attribute name value) = IsLongBinary value
IsTooLong (Content value) = IsLongBinary value
IsTooLong EndElement = ⊥
