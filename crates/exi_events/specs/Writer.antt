-- Own: what an event writer has put, and what it may put next.
use Rattle.std.specs.Prelude.{◌≡◌, ℕ, ◌+◌, ◌*◌, ◌^◌, ◌<◌, ◌≤◌, Bool, false, List, ◌∷◌, ◌++◌, length, take, reverse, Option, Some, None, slice_get}
use Rattle.exi_spec.specs.Bits.{bits_of}
use Rattle.exi_bits.specs.Pens.{written_bits}
use Rattle.exi_bits.specs.declared.pen.BitPen.{BitPen}
use Rattle.exi_bits.specs.declared.pen.Full.{Full}
use Rattle.exi_schema.specs.declared.places.Places.{Ghosts}
use Rattle.exi_schema.specs.declared.places.Place.{Place}
use Rattle.exi_schema.specs.declared.places.Step.{Step}
use Rattle.exi_schema.specs.declared.places.Step.TheVariants as step
use Rattle.exi_schema.specs.Schemas.{PlainSchema}
use Rattle.exi_schema.specs.declared.tables.Datatype.{Datatype}
use Rattle.exi_schema.specs.Plain.{PlainKind}
use Rattle.exi_schema.specs.declared.tables.MemberStanding.TheVariants.{Taken}
use Rattle.exi_schema.specs.Offers.{IsWidth, offers}
use Rattle.exi_schema.specs.Steps.{IsStep, simple_at}
use Rattle.exi_writing.specs.Trees.{Tree, Value as TreeValue, Event as TreeEvent, document_events}
use Rattle.exi_writing.specs.Values.{Entries, WritesValue}
use Rattle.exi_writing.specs.Documents.{IsEncoding, element}
use Rattle.exi_writing.specs.Grammar.{Opened, Standing, Inside, Behind, State, Moves, Reaches}
use Rattle.exi_writing.specs.Event.{Event}
use Rattle.exi_writing.specs.Event.TheVariants as event
use Rattle.exi_writing.specs.Value.{Value}
use Rattle.exi_writing.specs.Meaning.{IsShaped, event_of}
use Rattle.exi_events.specs.declared.offer.Found.{Found}
use Rattle.exi_events.specs.declared.offer.Found.TheVariants as found
use Rattle.exi_schema.specs.declared.places.Offer.{Offer}
use Rattle.exi_schema.specs.declared.places.Sought.{Sought}
use Rattle.exi_schema.specs.declared.places.Sought.TheVariants as sought
use Rattle.exi_events.specs.declared.writer.EventWriter.{EventWriter}
use Rattle.exi_events.specs.declared.reader.Phase.TheVariants as phase
use Rattle.exi_events.specs.Reader.{state_of, IsReadyAt}

-- a document as far as it is written: the bytes of its room, the bits written at their front, and how far the document is
pub record Draft : Type 0 where
  pub room : List ℕ
  pub bits : List Bool
  pub state : State

-- what a pen has written of it
abbrev pub drafted : BitPen → State → Draft
drafted pen state = record { room = pen.room.now; bits = written_bits pen; state = state }

module _ {P : Type 0} {p : Ghosts P} where
  -- what a writer has written of it
  abbrev pub draft_of : EventWriter P p → Draft
  draft_of w =
      let bits = take w.bits (bits_of w.room.now) in
      record { room = w.room.now; bits = bits; state = state_of w.phase w.elements bits w.table.now.entries }

  -- as a writer is made, and as each call leaves it
  abbrev pub IsReadyToPut : EventWriter P p → Type 0
  IsReadyToPut w = IsReadyAt (p.schema w.places.now) w.phase w.elements (draft_of w).bits w.table.now

-- the writer has the same room, table and places
pub record KeepsLent {P : Type 0} {p : Ghosts P} (old new : EventWriter P p) : Type 0 where
  pub room : new.room.ghost_name ≡ old.room.ghost_name
  pub table : new.table.ghost_name ≡ old.table.ghost_name
  pub places : new.places.now ≡ old.places.now

-- these bits are written behind the others, into the same room
pub record Adds (old new : Draft) (bits : List Bool) : Type 0 where
  pub written : new.bits ≡ old.bits ++ bits
  pub room : length new.room ≡ length old.room

-- what was written stays
abbrev pub AddsSome : Draft → Draft → Type 0
AddsSome old new = (bits : List Bool) × Adds old new bits

-- n bits more are more than the room has
abbrev pub NeedsMore : Draft → ℕ → Type 0
NeedsMore draft n = 8 * length draft.room < length draft.bits + n

-- ---- events

-- the events up to here, the newest first, are those that the bits write
abbrev pub HasPut : PlainSchema → List TreeEvent → Draft → Type 0
HasPut s events draft = Reaches WritesValue s events draft.bits draft.state

-- some bits write what is told; nothing more is told behind the root
abbrev pub IsOfferedAs : PlainSchema → State → Option TreeEvent → Type 0
IsOfferedAs s state (Some told) = (bits : List Bool) × (new : State) × Moves WritesValue s state told bits new
IsOfferedAs s state None = state.standing ≡ Behind

-- an event may be put: the place offers it, an element only as one that may stand there, its value is in its datatype, and the table
-- has room where a text would enter it
abbrev pub IsOffered : PlainSchema → State → Event → Type 0
IsOffered s state e = IsOfferedAs s state (event_of e)

-- the value of an event
abbrev pub value_in : Event → Option Value
value_in (event.Document number) = None
value_in (event.Start name) = None
value_in (event.Attribute name v) = Some v
value_in (event.Value v) = Some v
value_in event.EndElement = None
value_in event.Finished = None

abbrev pub IsShapedIn : Option Value → Type 0
IsShapedIn None = Unit {0}
IsShapedIn (Some v) = IsShaped v

-- a Binary is one of bytes, a text one of code points
abbrev pub IsShapedEvent : Event → Type 0
IsShapedEvent e = IsShapedIn (value_in e)

-- the bits of what is told are written; at the end nothing is
abbrev pub IsPut : PlainSchema → Draft → Draft → Option TreeEvent → Type 0
IsPut s old new (Some told) = (bits : List Bool) × Moves WritesValue s old.state told bits new.state × Adds old new bits
IsPut s old new None = (old.state.standing ≡ Behind) × (new ≡ old)

-- the room is too small for what writes it
abbrev pub HasNoRoom : PlainSchema → Draft → Option TreeEvent → Type 0
HasNoRoom s draft (Some told) =
    (bits : List Bool) × ((new : State) × Moves WritesValue s draft.state told bits new) × NeedsMore draft (length bits)
HasNoRoom s draft None = ⊥

-- so many bits write what is told; behind the root nothing is told
abbrev pub HasBits : PlainSchema → State → Option TreeEvent → ℕ → Type 0
HasBits s state (Some told) n =
    (bits : List Bool) × ((new : State) × Moves WritesValue s state told bits new) × (n ≡ length bits)
HasBits s state None n = n ≡ 0

-- what was written and what writes it have so many bits together
abbrev pub IsNeeded : PlainSchema → Draft → Option TreeEvent → Full → Type 0
IsNeeded s draft o full = (n : ℕ) × HasBits s draft.state o n × (full.bits ≡ length draft.bits + n)

-- the events of a document of which this is the encoding
abbrev pub IsWritten : PlainSchema → List TreeEvent → List ℕ → Type 0
IsWritten s events payload =
    (number : ℕ) × (tree : Tree) × (events ≡ reverse (document_events number tree)) × IsEncoding s tree payload

-- ---- a step and a value

-- a step is that of an event, and may be taken
abbrev pub IsStepOf : Step → Event → Type 0
IsStepOf (step.Attribute name kind next) (event.Attribute n v) = n ≡ name
IsStepOf (step.Element name kind next standing past_limit) (event.Start n) = (n ≡ name) × (standing ≡ Taken) × (past_limit ≡ false)
IsStepOf step.End event.EndElement = Unit {0}
IsStepOf (step.Characters next) (event.Value v) = Unit {0}
IsStepOf _ _ = ⊥

-- what an event is looked for as among the steps of a place
abbrev pub sought_in : Event → Option Sought
sought_in (event.Document number) = None
sought_in (event.Start name) = Some (sought.Element name)
sought_in (event.Attribute name v) = Some (sought.Attribute name)
sought_in (event.Value v) = Some sought.Characters
sought_in event.EndElement = Some sought.End
sought_in event.Finished = None

-- the code of an event at a place, its width, and what it means
pub record IsFound (s : PlainSchema) (here : Place) (offer : Offer) (e : Event) : Type 0 where
  pub offered : slice_get (offers s.kinds here) offer.code ≡ Some offer.step
  pub is_width : IsWidth (length (offers s.kinds here)) offer.width
  pub meant : IsStepOf offer.step e
  pub of_schema : IsStep s.kinds (length s.names) here.kind offer.step
  pub few : length (offers s.kinds here) < 2 ^ 16

abbrev pub IsFoundIn : PlainSchema → Place → Found → Event → Type 0
IsFoundIn s here found.Outside e = ⊥
IsFoundIn s here (found.Inside offer) e = IsFound s here offer e

-- inside an element an event has a code
abbrev pub IsFoundAt : PlainSchema → Standing → Found → Event → Type 0
IsFoundAt s (Inside top above) f e = IsFoundIn s top.place f e
IsFoundAt s _ f e = Unit {0}

-- a value of a simple kind, as it is written
abbrev pub WritesValueOf : List PlainKind → ℕ → Entries → ℕ → TreeValue → Entries → List Bool → Type 0
WritesValueOf kinds kind entries name value after bits =
    (datatype : Datatype) × (simple_at kinds kind ≡ Some datatype) × WritesValue datatype entries name value bits after

-- some bits write it
abbrev pub MayWrite : List PlainKind → ℕ → Entries → ℕ → TreeValue → Type 0
MayWrite kinds kind entries name value = (bits : List Bool) × (after : Entries) × WritesValueOf kinds kind entries name value after bits

-- ---- where an event is put at once

-- this element is the innermost, nothing lacked room, and the bits of a word have room
pub record HasWordRoom {P : Type 0} {p : Ghosts P} (w : EventWriter P p) (top : Opened) : Type 0 where
  pub inside : w.phase ≡ phase.Inside
  pub above : List Opened
  pub elements_are : w.elements ≡ top ∷ above
  pub open_still : w.full ≡ None
  pub room : w.bits + 64 ≤ 8 * length w.room.now

-- an element of this name may start at a place
abbrev pub OffersStart : List PlainKind → Place → ℕ → Type 0
OffersStart kinds here name = (code : ℕ) × (kind : ℕ) × (next : Place) × (slice_get (offers kinds here) code ≡ Some (element name kind next))

-- an element may end at a place
abbrev pub OffersEnd : List PlainKind → Place → Type 0
OffersEnd kinds here = (code : ℕ) × (slice_get (offers kinds here) code ≡ Some step.End)
