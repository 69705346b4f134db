-- Own: the values of a sequence, which are read at once.
use Rattle.std.specs.Prelude.{◌≡◌, ℕ, ◌+◌, ◌≤◌, Bool, List, [], ◌∷◌, ◌++◌, length, Some}
use Rattle.exi_spec.specs.Bits.{number_bits}
use Rattle.exi_bits.specs.Reading.{Cursor, Window, ahead}
use Rattle.exi_bits.specs.declared.span.SpanAt.{SpanAt}
use Rattle.exi_schema.specs.declared.places.Place.{Place}
use Rattle.exi_schema.specs.declared.places.SequenceChild.{SequenceChild}
use Rattle.exi_schema.specs.Schemas.{PlainSchema}
use Rattle.exi_schema.specs.Offers.{offers}
use Rattle.exi_schema.specs.Plain.{PlainKind}
use Rattle.exi_schema.specs.Sequences.{IsSequence, TellsSequence}
use Rattle.exi_schema.specs.Steps.{simple_at}
use Rattle.exi_writing.specs.Documents.{element, first}
use Rattle.exi_writing.specs.Grammar.{Opened, Inside, opened, around, stands}
use Rattle.exi_writing.specs.Trees.{Event as TreeEvent, Value as TreeValue, Start, EndElement}
use Rattle.exi_writing.specs.Meaning.{texts_in}
use Rattle.exi_writing.specs.Short.{SpellsShort, most_bits, tree_of}
use Rattle.exi_events.specs.declared.sequence.ThreeValues.{ThreeValues}
use Rattle.exi_events.specs.Child.{child_bits}
use Rattle.exi_events.specs.Reader.{Reading, reading, IsNext, HasTold, TakesValue}

-- a child with a value is taken: its start, its value and its end
pub record TakesChild (old new : Reading) (name : ℕ) (value : TreeValue) : Type 0 where
  pub started : Reading
  pub same_schema : started.schema ≡ old.schema
  pub same_bits : started.cursor.bits ≡ old.cursor.bits
  pub start : IsNext old started (Some (Start name))
  pub told : (events : List TreeEvent) → HasTold old events → HasTold started (Start name ∷ events)
  pub whole : TakesValue started new value

-- the end of an element is taken
pub record TakesEnd (old new : Reading) : Type 0 where
  pub end : IsNext old new (Some EndElement)
  pub told : (events : List TreeEvent) → HasTold old events → HasTold new (EndElement ∷ events)

-- the children of an element, each with a value, and its end are taken
abbrev pub TakesSequence : Reading → Reading → List TreeValue → Type 0
TakesSequence old new [] = TakesEnd old new
TakesSequence old new (value ∷ values) =
    (name : ℕ) × (behind : Reading) × (behind.schema ≡ old.schema) × (behind.cursor.bits ≡ old.cursor.bits)
    × TakesChild old behind name value × TakesSequence behind new values

-- three values that are read
abbrev pub values_of : ThreeValues → List TreeValue
values_of three = tree_of three.first ∷ tree_of three.second ∷ tree_of three.third ∷ []

-- at a place inside an element, with the texts at these places
abbrev pub inside_at : PlainSchema → ℕ → Place → List Opened → List Bool → List (ℕ × SpanAt) → Cursor → Reading
inside_at s name here above bits entries cursor = reading s (stands (Inside (opened name here) above) (texts_in bits entries)) cursor

-- behind an element
abbrev pub behind_all : PlainSchema → List Opened → List Bool → List (ℕ × SpanAt) → Cursor → Reading
behind_all s above bits entries cursor = reading s (stands (around above) (texts_in bits entries)) cursor

-- a child with a value is the one thing that is offered at a place
pub record OffersChild (kinds : List PlainKind) (here next : Place) (child : SequenceChild) : Type 0 where
  pub kind : ℕ
  pub offered : offers kinds here ≡ element child.name kind next ∷ []
  pub simple : simple_at kinds kind ≡ Some child.datatype

-- the innermost element is a sequence of these children, of which nothing is taken, if there are any
pub record HoldsSequence (s : PlainSchema) (elements : List Opened) (children : List SequenceChild) : Type 0 where
  pub top : Opened
  pub above : List Opened
  pub elements_are : elements ≡ top ∷ above
  pub tells : TellsSequence s.kinds top.place children

-- the innermost element is a sequence of these children, and nothing of it is taken
pub record AtSequence (r : Reading) (children : List SequenceChild) : Type 0 where
  pub name : ℕ
  pub kind : ℕ
  pub above : List Opened
  pub inside : r.state.standing ≡ Inside (opened name (first kind)) above
  pub sequence : IsSequence r.schema.kinds (first kind) children

-- ---- sequences that a window holds as a whole

-- a window holds these bits, behind which come others
pub record HoldsFront (front rest : List Bool) (window : Window) : Type 0 where
  pub within : length front ≤ window.held
  pub there : ahead window.cursor ≡ front ++ rest

-- the start, the value and the end of a child that is the one thing at its place, where the value has few bits
pub record SpellsChild (child : SequenceChild) (bits : List Bool) : Type 0 where
  pub value : TreeValue
  pub inside : List Bool
  pub spelled : SpellsShort child.datatype value inside
  pub few : length inside ≤ most_bits
  pub bits_are : bits ≡ child_bits inside

-- the bits that are left begin with those of three such children and of their element's end, in at most as many as each window holds
pub record HoldsThree (children : List SequenceChild) (cursor : Cursor) : Type 0 where
  pub one : SequenceChild
  pub two : SequenceChild
  pub three : SequenceChild
  pub one_bits : List Bool
  pub two_bits : List Bool
  pub three_bits : List Bool
  pub rest : List Bool
  pub children_are : children ≡ one ∷ two ∷ three ∷ []
  pub first_is : SpellsChild one one_bits
  pub second_is : SpellsChild two two_bits
  pub third_is : SpellsChild three three_bits
  pub whole_word : 64 ≤ length cursor.bits
  pub few : length one_bits + (length two_bits + (length three_bits + 1)) ≤ 57
  pub there : ahead cursor ≡ (one_bits ++ (two_bits ++ (three_bits ++ number_bits 1 0))) ++ rest
