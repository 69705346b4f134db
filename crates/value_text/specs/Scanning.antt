-- Own: what a cursor takes of a text, and where it goes wrong.
use Rattle.std.specs.Prelude.{◌≡◌, ℕ, ◌+◌, List, ◌++◌, length, Some, slice_get, encode_utf8}
use Rattle.std.specs.Str.{encode_utf8_all, chars}
use Rattle.std.specs.String.{string_bytes}
use Rattle.exi_schema.specs.Schemas.{PlainSchema}
use Rattle.exi_schema.specs.declared.tables.Datatype.{Datatype}
use Rattle.exi_documents.specs.Trees.{Value, Truth, Ordinal, Number, Bytes, Text}
use Rattle.value_text.specs.declared.awaited.Awaited.{Awaited}
use Rattle.value_text.specs.declared.cursor.TextCursor.{TextCursor}
use Rattle.value_text.specs.declared.fault.ScanFault.{ScanFault}
use Rattle.value_text.specs.declared.fault.ScanFault.TheVariants as fault
use Rattle.value_text.specs.declared.scanned.Scanned.{Scanned}
use Rattle.value_text.specs.declared.scanned.Scanned.TheVariants as scanned
use Rattle.value_text.specs.Fronts.{IsLongest}
use Rattle.value_text.specs.ValueText.{IsName, IsFormed}

-- a cursor passes these characters
pub record Passes (before : TextCursor) (front : List ℕ) (after : TextCursor) : Type 0 where
  pub stands : before.rest.now ≡ encode_utf8_all front ++ after.rest.now
  pub counted : after.place ≡ before.place + length front

-- it takes the longest front that begins a text of the language, and this is such a text
pub record Takes (L : List ℕ → Type 0) (before : TextCursor) (front : List ℕ) (after : TextCursor) : Type 0 where
  pub longest : IsLongest L before.rest.now front
  pub is_one : L (encode_utf8_all front)
  pub passed : Passes before front after

-- none of the language stands there: the longest front that begins one is none, and ends at the place
abbrev pub GoesWrong : (List ℕ → Type 0) → TextCursor → ℕ → Type 0
GoesWrong L cursor place =
    (front : List ℕ) × IsLongest L cursor.rest.now front × (L (encode_utf8_all front) → ⊥) × (place ≡ cursor.place + length front)

-- none of the language stands there. Want of memory comes freely
abbrev pub MissesAt : (List ℕ → Type 0) → TextCursor → ScanFault → Type 0
MissesAt L cursor (fault.Place place) = GoesWrong L cursor place
MissesAt L cursor fault.Memory = Unit {0}

-- ---- values

-- what is scanned, as a value of a tree
abbrev pub meaning : Scanned → Value
meaning (scanned.Bool truth) = Truth truth
meaning (scanned.Ordinal ordinal) = Ordinal ordinal
meaning (scanned.Number v) = Number v
meaning (scanned.Bytes bytes) = Bytes bytes.items
meaning (scanned.Text text) = Text (chars (string_bytes text))

-- the texts of a kind's values
abbrev pub IsAnyFormed : PlainSchema → ℕ → Datatype → List ℕ → Type 0
IsAnyFormed s kind datatype text = (value : Value) × IsFormed s kind datatype value text

-- ---- names

-- a name, and the character behind it
abbrev pub IsAwaitedText : PlainSchema → Awaited → List ℕ → Type 0
IsAwaitedText s awaited text = (word : List ℕ) × IsName s awaited.name word × (text ≡ word ++ encode_utf8 awaited.end)

-- one of those that are awaited
abbrev pub IsAnyAwaited : PlainSchema → List Awaited → List ℕ → Type 0
IsAnyAwaited s awaited text = (i : ℕ) × (one : Awaited) × (slice_get awaited i ≡ Some one) × IsAwaitedText s one text
