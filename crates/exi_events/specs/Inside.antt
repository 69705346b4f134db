-- Own: the open elements of a document of a schema, and events inside the innermost of them.
use Rattle.std.specs.Prelude.{◌≡◌, ℕ, ◌+◌, ◌-◌, true, Bool, List, [], ◌∷◌, length, Some, ◌⊎◌, Result, IfOk, IfErr}
use Rattle.exi_bits.specs.Reading.{Cursor, Takes, ahead}
use Rattle.exi_bits.specs.declared.span.SpanAt.{SpanAt}
use Rattle.exi_schema.specs.declared.places.Place.{Place}
use Rattle.exi_schema.specs.Schemas.{PlainSchema, is_within}
use Rattle.exi_schema.specs.declared.tables.Datatype.{Datatype}
use Rattle.exi_schema.specs.Plain.{PlainKind}
use Rattle.exi_schema.specs.Offers.{IsPlace}
use Rattle.exi_schema.specs.Steps.{simple_at}
use Rattle.exi_writing.specs.Refusal.{Refusal}
use Rattle.exi_writing.specs.RefusalCause.{RefusalCause}
use Rattle.exi_writing.specs.Refusals.{RefusesFrom}
use Rattle.exi_writing.specs.Grammar.{Opened, MovesFrom, around, stands}
use Rattle.exi_writing.specs.Trees.{Event as TreeEvent, Value as TreeValue}
use Rattle.exi_writing.specs.Values.{Entries, SpellsValue, RefusesValue, most_entries}
use Rattle.exi_writing.specs.Table.{Table}
use Rattle.exi_writing.specs.Event.{Event}
use Rattle.exi_writing.specs.Event.TheVariants as event
use Rattle.exi_writing.specs.Value.{Value}
use Rattle.exi_writing.specs.Meaning.{event_of, value_of, texts_in, AreTexts, IsLent}
use Rattle.exi_events.specs.declared.open.OpenElement.{OpenElement}
use Rattle.exi_events.specs.Open.{opened_of}

-- each element has reached a place of the schema, and is at most the sixteenth inside one another: its kind has room below it
abbrev pub AreOpen : List PlainKind → List Opened → Type 0
AreOpen kinds [] = Unit {0}
AreOpen kinds (top ∷ above) =
    IsPlace kinds top.place × (is_within kinds (16 - length above) top.place.kind ≡ true) × AreOpen kinds above

-- the innermost element
abbrev pub HasTop : List Opened → OpenElement → Type 0
HasTop elements top = (above : List Opened) × (elements ≡ opened_of top ∷ above)

-- the innermost element has reached this place
abbrev pub GoesTo : List Opened → Place → List Opened → Type 0
GoesTo old place new = (top : Opened) (above : List Opened) → old ≡ top ∷ above → new ≡ record { name = top.name; place = place } ∷ above

-- a value of a simple kind
abbrev pub SpellsValueOf : List PlainKind → ℕ → Entries → ℕ → TreeValue → Entries → List Bool → Type 0
SpellsValueOf kinds kind entries name value after bits =
    (datatype : Datatype) × (simple_at kinds kind ≡ Some datatype) × SpellsValue datatype entries name value bits after

abbrev pub RefusesValueOf : List PlainKind → ℕ → Entries → ℕ → List Bool → RefusalCause → ℕ → Type 0
RefusesValueOf kinds kind entries name bits why at =
    (datatype : Datatype) × (simple_at kinds kind ≡ Some datatype) × RefusesValue datatype entries name bits why at

-- a value of a simple kind is taken, with the table behind it, or the item of it that can't be taken is refused
pub record TakesValueOf (kinds : List PlainKind) (kind name : ℕ) (old new : Cursor) (before after : Table SpanAt) (result : Result Value Refusal) : Type 0 where
  pub ok : IfOk result (λ v. Takes (SpellsValueOf kinds kind (texts_in old.bits before.entries) name (value_of v) (texts_in old.bits after.entries)) old new)
  pub lent : IfOk result (λ v. IsLent old.bits v)
  pub same : new.bits ≡ old.bits
  pub texts : AreTexts old.bits after.entries
  pub cap : after.cap ≡ most_entries
  pub refused : IfErr result (λ r. (at : ℕ) × RefusesValueOf kinds kind (texts_in old.bits before.entries) name (ahead old) r.cause at × (r.bit ≡ old.place + at))

-- these bits spell an event inside the innermost element, with the open elements and the texts before and behind it
abbrev pub SpellsInside : PlainSchema → List Opened → Entries → Event → List Opened → Entries → List Bool → Type 0
SpellsInside s elements entries e elements_after after bits =
    (told : TreeEvent) × (event_of e ≡ Some told) × MovesFrom SpellsValue s (around elements) entries told bits (stands (around elements_after) after)

-- these bits spell a value, and behind it the end of its element
pub record TakesWhole (s : PlainSchema) (elements : List Opened) (entries : Entries) (v : Value) (elements_after : List Opened) (after : Entries) (old new : Cursor) : Type 0 where
  pub moved : List Opened
  pub middle : Cursor
  pub content : Takes (SpellsInside s elements entries (event.Value v) moved after) old middle
  pub end : Takes (SpellsInside s moved after event.EndElement elements_after after) middle new

-- the next item inside the innermost element can't be taken
abbrev pub RefusesInside : PlainSchema → List Opened → Entries → Cursor → Refusal → Type 0
RefusesInside s elements entries cursor r =
    (at : ℕ) × RefusesFrom s (around elements) entries (ahead cursor) r.cause at × (r.bit ≡ cursor.place + at)

-- a value, and behind it the end of its element, can't be taken: at an item of the value, or behind it
abbrev pub RefusesWhole : PlainSchema → List Opened → Entries → Cursor → Refusal → Type 0
RefusesWhole s elements entries old r =
    RefusesInside s elements entries old r
    ⊎ ((v : Value) × (moved : List Opened) × (middle : Cursor) × (after : Entries)
    × Takes (SpellsInside s elements entries (event.Value v) moved after) old middle
    × (middle.bits ≡ old.bits)
    × RefusesInside s moved after middle r)
