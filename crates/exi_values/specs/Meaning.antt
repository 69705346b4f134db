-- Own: the values, events and texts that are lent from the bits of a payload.
use Rattle.std.specs.Prelude.{◌≡◌, ℕ, Bool, true, false, List, map, Option, Some, None}
use Rattle.std.specs.List.{AllByRecursion}
use Rattle.std.specs.Str.{chars}
use Rattle.exi_bits.specs.Lent.{IsSpan, items_of, text_at}
use Rattle.exi_bits.specs.declared.span.SpanAt.{SpanAt}
use Rattle.exi_documents.specs.Trees.{Value as TreeValue, Truth, Ordinal, Number, Bytes, Text, Event as TreeEvent, Document, Start, Attribute, Content, EndElement}
use Rattle.exi_documents.specs.Values.{Entries}
use Rattle.exi_values.specs.declared.Event.{Event}
use Rattle.exi_values.specs.declared.Event.TheVariants as event
use Rattle.exi_values.specs.declared.Value.{Value}
use Rattle.exi_values.specs.declared.Value.TheVariants as value

-- the texts at the places of a table
abbrev pub texts_in : List Bool → List (ℕ × SpanAt) → Entries
texts_in bits entries = map (λ e. (e.0, items_of (text_at bits e.1))) entries

-- a text is spelled at each place of a table
abbrev pub AreTexts : List Bool → List (ℕ × SpanAt) → Type 0
AreTexts bits entries = AllByRecursion (λ e. IsSpan (text_at bits e.1)) entries

-- what a value is, wherever it lies
abbrev pub value_of : Value → TreeValue
value_of (value.Bool truth) = Truth truth
value_of (value.Ordinal ordinal) = Ordinal ordinal
value_of (value.Number v) = Number v
value_of (value.Binary span) = Bytes (items_of span)
value_of (value.Text span) = Text (items_of span)
value_of (value.Written text) = Text (chars text.now)

-- a Binary is one of bytes, a text one of code points
abbrev pub IsShaped : Value → Type 0
IsShaped (value.Bool truth) = Unit {0}
IsShaped (value.Ordinal ordinal) = Unit {0}
IsShaped (value.Number v) = Unit {0}
IsShaped (value.Binary span) = span.is_text ≡ false
IsShaped (value.Text span) = span.is_text ≡ true
IsShaped (value.Written text) = Unit {0}

-- as it is read: a Binary and a text are lent from these bits
abbrev pub IsLent : List Bool → Value → Type 0
IsLent bits (value.Bool truth) = Unit {0}
IsLent bits (value.Ordinal ordinal) = Unit {0}
IsLent bits (value.Number v) = Unit {0}
IsLent bits (value.Binary span) = (span.bits ≡ bits) × (span.is_text ≡ false)
IsLent bits (value.Text span) = (span.bits ≡ bits) × (span.is_text ≡ true)
IsLent bits (value.Written text) = ⊥

-- what an event tells; none where the document has ended
abbrev pub event_of : Event → Option TreeEvent
event_of (event.Document number) = Some (Document number)
event_of (event.Start name) = Some (Start name)
event_of (event.Attribute name v) = Some (Attribute name (value_of v))
event_of (event.Value v) = Some (Content (value_of v))
event_of event.EndElement = Some EndElement
event_of event.Finished = None

abbrev pub IsLentEvent : List Bool → Event → Type 0
IsLentEvent bits (event.Document number) = Unit {0}
IsLentEvent bits (event.Start name) = Unit {0}
IsLentEvent bits (event.Attribute name v) = IsLent bits v
IsLentEvent bits (event.Value v) = IsLent bits v
IsLentEvent bits event.EndElement = Unit {0}
IsLentEvent bits event.Finished = Unit {0}
