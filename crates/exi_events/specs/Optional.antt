-- Own: the values of a sequence of which the second may be absent, which are read at once.
use Rattle.std.specs.Prelude.{◌≡◌, ℕ, ◌+◌, ◌≤◌, Bool, List, [], ◌∷◌, ◌++◌, length, Option, Some, None, ◌⊎◌}
use Rattle.exi_spec.specs.Bits.{number_bits}
use Rattle.exi_bits.specs.Reading.{Cursor, ahead}
use Rattle.exi_schema.specs.declared.places.OptionalSequence.{OptionalSequence}
use Rattle.exi_schema.specs.declared.places.Place.{Place}
use Rattle.exi_schema.specs.declared.places.SequenceChild.{SequenceChild}
use Rattle.exi_schema.specs.Schemas.{PlainSchema}
use Rattle.exi_schema.specs.Offers.{offers}
use Rattle.exi_schema.specs.Plain.{PlainKind}
use Rattle.exi_schema.specs.Sequences.{IsSequence, IsOptionalSequence}
use Rattle.exi_schema.specs.Steps.{simple_at}
use Rattle.exi_writing.specs.Documents.{element, first}
use Rattle.exi_writing.specs.Grammar.{Opened, Inside, opened}
use Rattle.exi_writing.specs.Trees.{Value as TreeValue}
use Rattle.exi_writing.specs.Short.{SpellsShort, most_bits, tree_of}
use Rattle.exi_writing.specs.ShortValue.{ShortValue}
use Rattle.exi_events.specs.declared.optional.OptionalValues.{OptionalValues}
use Rattle.exi_events.specs.Child.{inside_bits}
use Rattle.exi_events.specs.Reader.{Reading}
use Rattle.exi_events.specs.Sequence.{SpellsChild, TakesChild, TakesSequence}

-- from this place on the second child or not, and the third, and then the end
pub record GoesOn (kinds : List PlainKind) (here : Place) (children : OptionalSequence) : Type 0 where
  pub kind : ℕ
  pub next : Place
  pub second_also : offers kinds here ≡ element children.second.name kind next ∷ offers kinds next
  pub simple : simple_at kinds kind ≡ Some children.second.datatype
  pub third_only : IsSequence kinds next (children.third ∷ [])
  pub other : children.third.name ≡ children.second.name → ⊥

-- a child of this name is taken or not, and then one, which has another name where the first is absent, each with a value, and the end
abbrev pub TakesRest : Reading → Reading → ℕ → Option ShortValue → TreeValue → Type 0
TakesRest old new second None third = (took : TakesSequence old new (third ∷ [])) × (took.0 ≡ second → ⊥)
TakesRest old new second (Some value) third = (took : TakesSequence old new (tree_of value ∷ third ∷ [])) × (took.0 ≡ second)

-- a first child is taken, and then these
pub record TakesOptional (old new : Reading) (second : ℕ) (values : OptionalValues) : Type 0 where
  pub name : ℕ
  pub behind : Reading
  pub same_schema : behind.schema ≡ old.schema
  pub same_bits : behind.cursor.bits ≡ old.cursor.bits
  pub first_taken : TakesChild old behind name (tree_of values.first)
  pub rest_taken : TakesRest behind new second values.second (tree_of values.third)

-- the innermost element is such a sequence, of which nothing is taken, and whose second child alone has this name
pub record HoldsOptional (s : PlainSchema) (elements : List Opened) (second : ℕ) (children : OptionalSequence) : Type 0 where
  pub top : Opened
  pub above : List Opened
  pub elements_are : elements ≡ top ∷ above
  pub sequence : IsOptionalSequence s.kinds top.place children
  pub named : children.second.name ≡ second
  pub other : children.third.name ≡ second → ⊥

-- the innermost element is such a sequence, nothing of it is taken, and its second child alone has this name
pub record AtOptional (r : Reading) (second : ℕ) (children : OptionalSequence) : Type 0 where
  pub name : ℕ
  pub kind : ℕ
  pub above : List Opened
  pub inside : r.state.standing ≡ Inside (opened name (first kind)) above
  pub sequence : IsOptionalSequence r.schema.kinds (first kind) children
  pub named : children.second.name ≡ second
  pub other : children.third.name ≡ second → ⊥

-- ---- sequences that a window holds as a whole

-- the value and the end of a child that has started, where the value has few bits
pub record SpellsStarted (child : SequenceChild) (bits : List Bool) : Type 0 where
  pub value : TreeValue
  pub inside : List Bool
  pub spelled : SpellsShort child.datatype value inside
  pub few : length inside ≤ most_bits
  pub bits_are : bits ≡ inside_bits inside

-- the second child, where it is there, and the third, each with a value of few bits
abbrev pub SpellsRest : OptionalSequence → List Bool → Type 0
SpellsRest children bits =
    ((two : List Bool) × (three : List Bool) × SpellsStarted children.second two × SpellsChild children.third three × (bits ≡ number_bits 2 0 ++ (two ++ three)))
    ⊎ ((three : List Bool) × SpellsStarted children.third three × (bits ≡ number_bits 2 1 ++ three))

-- the bits that are left begin with those of such children and of their element's end, in at most as many as each window holds
pub record HoldsTwoOrThree (children : OptionalSequence) (cursor : Cursor) : Type 0 where
  pub first_bits : List Bool
  pub rest_bits : List Bool
  pub rest : List Bool
  pub first_is : SpellsChild children.first first_bits
  pub rest_is : SpellsRest children rest_bits
  pub whole_word : 64 ≤ length cursor.bits
  pub few : length first_bits + (length rest_bits + 1) ≤ 57
  pub there : ahead cursor ≡ (first_bits ++ (rest_bits ++ number_bits 1 0)) ++ rest
