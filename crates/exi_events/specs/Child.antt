-- Own: a child with a value, whose start, value and end are put at once.
use Rattle.std.specs.Prelude.{◌≡◌, ℕ, ◌+◌, ◌^◌, ◌<◌, ◌≤◌, Bool, List, [], ◌∷◌, ◌++◌, length, Option, Some, None, slice_get}
use Rattle.exi_spec.specs.Bits.{number_bits}
use Rattle.exi_schema.specs.declared.places.Place.{Place}
use Rattle.exi_schema.specs.declared.tables.Datatype.{Datatype}
use Rattle.exi_schema.specs.Offers.{IsWidth, offers}
use Rattle.exi_schema.specs.Plain.{PlainKind}
use Rattle.exi_schema.specs.Schemas.{PlainSchema}
use Rattle.exi_schema.specs.declared.places.OptionalSequence.{OptionalSequence}
use Rattle.exi_schema.specs.declared.places.SequenceChild.{SequenceChild}
use Rattle.exi_schema.specs.Sequences.{IsSequence, IsOptionalSequence}
use Rattle.exi_schema.specs.Steps.{IsStep, simple_at}
use Rattle.exi_writing.specs.Documents.{SpellsSimple, element, first}
use Rattle.exi_writing.specs.Trees.{Value, Start, Content, EndElement}
use Rattle.exi_writing.specs.Values.{Entries, WritesValue}
use Rattle.exi_writing.specs.Short.{IsShort, most_bits, tree_of}
use Rattle.exi_events.specs.declared.child.ChildCode.{ChildCode}
use Rattle.exi_events.specs.declared.child.NamedValue.{NamedValue}
use Rattle.exi_events.specs.declared.child.OptionalChildren.{OptionalChildren}
use Rattle.exi_events.specs.declared.child.ThreeChildren.{ThreeChildren}
use Rattle.exi_events.specs.Writer.{Draft, IsPut}

-- this code starts a child of this name at a place
pub record StartsChild (s : PlainSchema) (here : Place) (name : ℕ) (child : ChildCode) : Type 0 where
  pub offered : slice_get (offers s.kinds here) child.code ≡ Some (element name child.kind child.next)
  pub is_width : IsWidth (length (offers s.kinds here)) child.width
  pub of_schema : IsStep s.kinds (length s.names) here.kind (element name child.kind child.next)
  pub few : length (offers s.kinds here) < 2 ^ 16

-- these bits, which are few, write a value whatever texts are entered
pub record WritesShort (datatype : Datatype) (value : Value) (bits : List Bool) : Type 0 where
  pub few : length bits ≤ most_bits
  pub writes : (entries : Entries) (name : ℕ) → WritesValue datatype entries name value bits entries

-- few bits write a value of a simple kind
pub record MayWriteShort (kinds : List PlainKind) (kind : ℕ) (value : Value) : Type 0 where
  pub datatype : Datatype
  pub simple : simple_at kinds kind ≡ Some datatype
  pub bits : List Bool
  pub written : WritesShort datatype value bits

-- an element of this name may start at a place, whose value is short, and few bits write it
pub record OffersShort (kinds : List PlainKind) (here : Place) (name : ℕ) (value : Value) : Type 0 where
  pub code : ℕ
  pub kind : ℕ
  pub next : Place
  pub offered : slice_get (offers kinds here) code ≡ Some (element name kind next)
  pub short : IsShort value
  pub may : MayWriteShort kinds kind value

-- behind so many bits a word has no room for these
abbrev pub IsFull : List Bool → List Bool → Type 0
IsFull held bits = 64 < length held + length bits

-- the bits of its value and its end, behind its start, where no text is entered
abbrev pub WritesInside : List PlainKind → ℕ → Entries → ℕ → Value → List Bool → Type 0
WritesInside kinds kind entries name value bits = SpellsSimple WritesValue kinds kind entries name value bits entries

-- its start, its value and its end are put, each behind the one before
pub record PutsChild (s : PlainSchema) (old new : Draft) (name : ℕ) (value : Value) : Type 0 where
  pub started : Draft
  pub valued : Draft
  pub start : IsPut s old started (Some (Start name))
  pub content : IsPut s started valued (Some (Content value))
  pub end : IsPut s valued new (Some EndElement)

-- ---- a sequence of three values

-- the bits of a child behind its start: of its value's code, of the value, and of its end
abbrev pub inside_bits : List Bool → List Bool
inside_bits bits = number_bits 1 0 ++ (bits ++ number_bits 1 0)

-- and of its start, where it is the one thing at its place
abbrev pub child_bits : List Bool → List Bool
child_bits bits = number_bits 1 0 ++ inside_bits bits

-- a child of this name and value, which these bits write whatever texts are entered
pub record IsNamed (child : SequenceChild) (named : NamedValue) (bits : List Bool) : Type 0 where
  pub name_is : child.name ≡ named.name
  pub writes : (entries : Entries) (name : ℕ) → WritesValue child.datatype entries name (tree_of named.value) bits entries

-- and the bits are few
pub record IsNamedShort (child : SequenceChild) (named : NamedValue) (bits : List Bool) : Type 0 where
  pub name_is : child.name ≡ named.name
  pub written : WritesShort child.datatype (tree_of named.value) bits

-- the bits of three children, which are all that a kind has, and of its end
pub record WritesThree (kinds : List PlainKind) (kind : ℕ) (values : ThreeChildren) (bits : List Bool) : Type 0 where
  pub one : SequenceChild
  pub two : SequenceChild
  pub three : SequenceChild
  pub one_bits : List Bool
  pub two_bits : List Bool
  pub three_bits : List Bool
  pub sequence : IsSequence kinds (first kind) (one ∷ two ∷ three ∷ [])
  pub first_is : IsNamed one values.first one_bits
  pub second_is : IsNamed two values.second two_bits
  pub third_is : IsNamed three values.third three_bits
  pub bits_are : bits ≡ child_bits one_bits ++ (child_bits two_bits ++ (child_bits three_bits ++ number_bits 1 0))

-- such children, each of few bits, have room in a word behind a code of so many bits
pub record FitsThree (kinds : List PlainKind) (kind width : ℕ) (values : ThreeChildren) : Type 0 where
  pub one : SequenceChild
  pub two : SequenceChild
  pub three : SequenceChild
  pub one_bits : List Bool
  pub two_bits : List Bool
  pub three_bits : List Bool
  pub sequence : IsSequence kinds (first kind) (one ∷ two ∷ three ∷ [])
  pub first_is : IsNamedShort one values.first one_bits
  pub second_is : IsNamedShort two values.second two_bits
  pub third_is : IsNamedShort three values.third three_bits
  pub few : width + (length (child_bits one_bits) + (length (child_bits two_bits) + (length (child_bits three_bits) + 1))) ≤ 64

-- an element of this name may start at a place, and is such a sequence
pub record OffersThree (kinds : List PlainKind) (here : Place) (name : ℕ) (values : ThreeChildren) : Type 0 where
  pub code : ℕ
  pub kind : ℕ
  pub next : Place
  pub offered : slice_get (offers kinds here) code ≡ Some (element name kind next)
  pub fits : (width : ℕ) → IsWidth (length (offers kinds here)) width → FitsThree kinds kind width values

-- an element and its three children are put, each behind the one before
pub record PutsThree (s : PlainSchema) (old new : Draft) (name : ℕ) (values : ThreeChildren) : Type 0 where
  pub started : Draft
  pub one : Draft
  pub two : Draft
  pub three : Draft
  pub start : IsPut s old started (Some (Start name))
  pub first_put : PutsChild s started one values.first.name (tree_of values.first.value)
  pub second_put : PutsChild s one two values.second.name (tree_of values.second.value)
  pub third_put : PutsChild s two three values.third.name (tree_of values.third.value)
  pub end : IsPut s three new (Some EndElement)

-- ---- a sequence of three values of which the second may be absent

-- the bits of the second child, where it is there, and of the third: two things may start behind the first
abbrev pub RestBits : (SequenceChild → NamedValue → List Bool → Type 0) → OptionalSequence → Option NamedValue → NamedValue → List Bool → Type 0
RestBits Is children None third bits = (inside : List Bool) × Is children.third third inside × (bits ≡ number_bits 2 1 ++ inside_bits inside)
RestBits Is children (Some second) third bits =
    (two : List Bool) × (three : List Bool) × Is children.second second two × Is children.third third three
    × (bits ≡ number_bits 2 0 ++ (inside_bits two ++ child_bits three))

-- the bits of such children, which are all that a kind has, and of its end
pub record WritesOptional (kinds : List PlainKind) (kind : ℕ) (values : OptionalChildren) (bits : List Bool) : Type 0 where
  pub children : OptionalSequence
  pub first_bits : List Bool
  pub rest_bits : List Bool
  pub sequence : IsOptionalSequence kinds (first kind) children
  pub first_is : IsNamed children.first values.first first_bits
  pub rest_is : RestBits IsNamed children values.second values.third rest_bits
  pub bits_are : bits ≡ child_bits first_bits ++ (rest_bits ++ number_bits 1 0)

-- such children, each of few bits, have room in a word behind a code of so many bits
pub record FitsOptional (kinds : List PlainKind) (kind width : ℕ) (values : OptionalChildren) : Type 0 where
  pub children : OptionalSequence
  pub first_bits : List Bool
  pub rest_bits : List Bool
  pub sequence : IsOptionalSequence kinds (first kind) children
  pub first_is : IsNamedShort children.first values.first first_bits
  pub rest_is : RestBits IsNamedShort children values.second values.third rest_bits
  pub few : width + (length (child_bits first_bits) + (length rest_bits + 1)) ≤ 64

-- an element of this name may start at a place, and is such a sequence
pub record OffersOptional (kinds : List PlainKind) (here : Place) (name : ℕ) (values : OptionalChildren) : Type 0 where
  pub code : ℕ
  pub kind : ℕ
  pub next : Place
  pub offered : slice_get (offers kinds here) code ≡ Some (element name kind next)
  pub fits : (width : ℕ) → IsWidth (length (offers kinds here)) width → FitsOptional kinds kind width values

-- the second child, where it is there, the third and the end of their element are put, each behind the one before
abbrev pub PutsRest : PlainSchema → Draft → Draft → Option NamedValue → NamedValue → Type 0
PutsRest s old new None third = (last : Draft) × PutsChild s old last third.name (tree_of third.value) × IsPut s last new (Some EndElement)
PutsRest s old new (Some second) third =
    (behind : Draft) × (last : Draft) × PutsChild s old behind second.name (tree_of second.value)
    × PutsChild s behind last third.name (tree_of third.value) × IsPut s last new (Some EndElement)

-- an element and such children are put
pub record PutsOptional (s : PlainSchema) (old new : Draft) (name : ℕ) (values : OptionalChildren) : Type 0 where
  pub started : Draft
  pub one : Draft
  pub start : IsPut s old started (Some (Start name))
  pub first_put : PutsChild s started one values.first.name (tree_of values.first.value)
  pub rest_put : PutsRest s one new values.second values.third
