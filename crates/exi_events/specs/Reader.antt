-- Own: where an event reader stands in a document.
use Rattle.std.specs.Prelude.{◌≡◌, ℕ, ◌+◌, ◌<◌, true, Bool, List, [], ◌∷◌, ◌++◌, length, reverse, Option, Some, None}
use Rattle.exi_bits.specs.Reading.{Cursor, Takes, ahead}
use Rattle.exi_bits.specs.declared.span.SpanAt.{SpanAt}
use Rattle.exi_schema.specs.declared.places.Place.{Place}
use Rattle.exi_schema.specs.Schemas.{PlainSchema, is_within}
use Rattle.exi_writing.specs.Refusal.{Refusal}
use Rattle.exi_writing.specs.Trees.{Tree, Event as TreeEvent, Value as TreeValue, Content, EndElement, document_events}
use Rattle.exi_writing.specs.Values.{SpellsValue, most_entries}
use Rattle.exi_writing.specs.Documents.{IsDocument}
use Rattle.exi_writing.specs.Grammar.{Opened, Standing, Before, AtRoot, Inside, Behind, State, around, stands, Moves, Reaches}
use Rattle.exi_writing.specs.Refusals.{RefusesNext}
use Rattle.exi_writing.specs.Table.{Table}
use Rattle.document_laws.specs.Laws.{weight}
use Rattle.exi_writing.specs.Meaning.{texts_in, AreTexts}
use Rattle.exi_events.specs.declared.reader.EventReader.{EventReader}
use Rattle.exi_events.specs.declared.reader.Phase.{Phase}
use Rattle.exi_events.specs.declared.reader.Phase.TheVariants as phase
use Rattle.exi_events.specs.Inside.{AreOpen}

-- before the document, at its root, or inside the innermost of the elements; behind the root where none is open
abbrev pub standing_of : Phase → List Opened → Standing
standing_of phase.Before elements = Before
standing_of (phase.AtRoot name kind) elements = AtRoot name kind
standing_of phase.Inside elements = around elements

abbrev pub state_of : Phase → List Opened → List Bool → List (ℕ × SpanAt) → State
state_of phase elements bits entries = stands (standing_of phase elements) (texts_in bits entries)

-- the place reached in the innermost element
abbrev pub innermost_place : Standing → Option Place
innermost_place Before = None
innermost_place (AtRoot name kind) = None
innermost_place (Inside top above) = Some top.place
innermost_place Behind = None

-- the root and the open elements are of the schema
abbrev pub IsSound : PlainSchema → Phase → List Opened → Type 0
IsSound s phase.Before elements = elements ≡ []
IsSound s (phase.AtRoot name kind) elements =
    (elements ≡ []) × (kind < length s.kinds) × (is_within s.kinds 16 kind ≡ true)
IsSound s phase.Inside elements = AreOpen s.kinds elements

-- as a reader is made, and as each call leaves it: the table has its size and places of texts of the payload
pub record IsReadyAt (s : PlainSchema) (phase : Phase) (elements : List Opened) (bits : List Bool) (table : Table SpanAt) : Type 0 where
  pub cap : table.cap ≡ most_entries
  pub texts : AreTexts bits table.entries
  pub sound : IsSound s phase elements

-- how far a payload is read: the schema, how far the document is, and the bits passed and ahead
pub record Reading : Type 0 where
  pub schema : PlainSchema
  pub state : State
  pub cursor : Cursor

abbrev pub reading : PlainSchema → State → Cursor → Reading
reading s state cursor = record { schema = s; state = state; cursor = cursor }

-- of a reader over places that tell a schema
abbrev pub reading_of : {P : Type 0} → (P → PlainSchema) → EventReader P → Reading
reading_of schema r = reading (schema r.places.now) (state_of r.phase r.elements r.reader.bits r.table.now.entries) r.reader

abbrev pub IsReady : {P : Type 0} → (P → PlainSchema) → EventReader P → Type 0
IsReady schema r = IsReadyAt (schema r.places.now) r.phase r.elements r.reader.bits r.table.now

-- how many events may still come at most
abbrev pub events_left : Reading → ℕ
events_left r = length (ahead r.cursor) + weight r.state.standing

-- an event is taken, or the document has ended and less than a byte is left
abbrev pub IsNext : Reading → Reading → Option TreeEvent → Type 0
IsNext old new (Some event) = Takes (λ bits. Moves SpellsValue old.schema old.state event bits new.state) old.cursor new.cursor
IsNext old new None = (old.state.standing ≡ Behind) × (length (ahead old.cursor) < 8) × (new.state ≡ old.state) × (new.cursor ≡ old.cursor)

-- the item at the next event can't be taken
abbrev pub IsRefusedAt : Reading → Refusal → Type 0
IsRefusedAt r refusal =
    (at : ℕ) × RefusesNext r.schema r.state (ahead r.cursor) refusal.cause at × (refusal.bit ≡ r.cursor.place + at)

-- the events up to here, the newest first, are those that the bits passed spell
abbrev pub HasTold : Reading → List TreeEvent → Type 0
HasTold r events =
    (front : List Bool) × Reaches SpellsValue r.schema events front r.state × (r.cursor.bits ≡ front ++ ahead r.cursor) × (r.cursor.place ≡ length front)

-- the events of a document that the payload spells
abbrev pub IsTold : PlainSchema → List TreeEvent → List ℕ → Type 0
IsTold s events payload =
    (number : ℕ) × (tree : Tree) × (events ≡ reverse (document_events number tree)) × IsDocument s tree payload

-- a value and the end of its element are taken, and told where the events up to there are
pub record TakesValue (old new : Reading) (value : TreeValue) : Type 0 where
  pub behind : Reading
  pub same_schema : behind.schema ≡ old.schema
  pub same_bits : behind.cursor.bits ≡ old.cursor.bits
  pub content : IsNext old behind (Some (Content value))
  pub told : (events : List TreeEvent) → HasTold old events → HasTold behind (Content value ∷ events)
  pub end : IsNext behind new (Some EndElement)
  pub told_end : (events : List TreeEvent) → HasTold behind events → HasTold new (EndElement ∷ events)
