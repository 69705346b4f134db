-- Own: how far a message is read.
use Rattle.std.specs.Prelude.{◌≡◌, ℕ, Bool, List, [], ◌∷◌, length, drop, map, Option, Some, None, slice_get, true}
use Rattle.std.specs.List.{flat_map}
use Rattle.exi_spec.specs.Bits.{bits_of}
use Rattle.exi_bits.specs.Reading.{Cursor}
use Rattle.exi_schema.specs.declared.places.Place.{Place}
use Rattle.exi_schema.specs.declared.places.Step.TheVariants.{End}
use Rattle.exi_schema.specs.declared.tables.AttributeOf.{AttributeOf}
use Rattle.exi_schema.specs.Schemas.{PlainSchema}
use Rattle.exi_schema.specs.declared.tables.Member.{Member}
use Rattle.exi_schema.specs.Schemas.{are_distinct}
use Rattle.exi_schema.specs.Steps.{IsRoot}
use Rattle.exi_schema.specs.declared.places.Root.TheVariants.{Kind}
use Rattle.exi_events.specs.Documents.{element, first}
use Rattle.exi_events.specs.Refusal.{Refusal}
use Rattle.exi_events.specs.Grammar.{Opened, Inside, Before, AtRoot, State, opened, around}
use Rattle.exi_events.specs.Refusals.{IsRefused}
use Rattle.exi_events.specs.Trees.{Event, Document, Start, EndElement}
use Rattle.exi_events.specs.Reader.{state_of, reading, IsReady, HasTold}
use Rattle.exi_schema.specs.Plain.{PlainKind, PlainParticle, containing}
use Rattle.exi_schema.specs.Offers.{element_steps}
use Rattle.message_parts.specs.Particles.{kind_among}
use Rattle.message_parts.specs.declared.descent.Descent.{Descent}

-- what is known around an element: the schema, the bits of the payload, its name and the elements that it stands in
pub record Frame : Type 0 where
  pub schema : PlainSchema
  pub bits : List Bool
  pub name : ℕ
  pub above : List Opened

-- what a contract sees of a descent
pub record Seen : Type 0 where
  pub schema : PlainSchema
  pub state : State
  pub cursor : Cursor
  pub refused : Option Refusal
  pub child : Option ℕ

abbrev pub seen_of : {P : Type 0} → (P → PlainSchema) → Descent P → Seen
seen_of schema d = record {
  schema = schema d.reader.places.now;
  state = state_of d.reader.phase d.reader.elements d.reader.reader.bits d.reader.table.now.entries;
  cursor = d.reader.reader;
  refused = d.reader.refused;
  child = d.child;
}

-- these events, the newest first, are told up to a state
abbrev pub ToldUpTo : PlainSchema → List Event → State → Cursor → Type 0
ToldUpTo s events state cursor = HasTold (reading s state cursor) events

-- nothing is refused so far, and these events were told
pub record Goes (ks : List PlainKind) (F : Frame) (events : List Event) (d : Seen) : Type 0 where
  pub schema_is : d.schema ≡ F.schema
  pub kinds_are : F.schema.kinds ≡ ks
  pub bits_are : d.cursor.bits ≡ F.bits
  pub none_refused : d.refused ≡ None
  pub told : ToldUpTo F.schema events d.state d.cursor

-- inside an element of a kind, of which nothing but its start is told
pub record Enters (ks : List PlainKind) (F : Frame) (kind : ℕ) (told : List Event) (d : Seen) : Type 0 where
  pub goes : Goes ks F told d
  pub standing : d.state.standing ≡ Inside (opened F.name (first kind)) F.above

-- behind the end of the element
pub record Leaves (ks : List PlainKind) (F : Frame) (told : List Event) (d : Seen) : Type 0 where
  pub goes : Goes ks F (EndElement ∷ told) d
  pub standing : d.state.standing ≡ around F.above

-- a refusal of the payload
abbrev pub IsRefusal : Seen → Refusal → Type 0
IsRefusal d r = (payload : List ℕ) → bits_of payload ≡ d.cursor.bits → IsRefused d.schema payload r.cause r.bit

abbrev pub IsRefusalKept : Seen → Option Refusal → Type 0
IsRefusalKept d None = (events : List Event) × ToldUpTo d.schema events d.state d.cursor
IsRefusalKept d (Some r) = IsRefusal d r

-- as a descent is made, and as each call leaves it
pub record IsOpen {P : Type 0} (schema : P → PlainSchema) (d : Descent P) : Type 0 where
  pub ready : IsReady schema d.reader
  pub kept : IsRefusalKept (seen_of schema d) d.reader.refused

-- ---- attributes and children

abbrev pub names_in : List PlainParticle → List ℕ
names_in particles = flat_map (λ particle. map (λ (m : Member). m.name) particle.members) particles

abbrev pub before_children : ℕ → ℕ → Place
before_children kind passed = record { kind = kind; particle = 0; copies = 0; attributes = passed }

abbrev pub at_particle : ℕ → ℕ → ℕ → ℕ → Place
at_particle kind attributes at copies = record { kind = kind; particle = at; copies = copies; attributes = attributes }

-- behind `at` of the attributes of an element, where nothing more is looked at
pub record StartsAt (ks : List PlainKind) (F : Frame) (attributes : List AttributeOf) (declared : List PlainParticle) (at : ℕ) (told : List Event) (d : Seen) : Type 0 where
  pub kind : ℕ
  pub is_kind : slice_get ks kind ≡ Some (containing attributes declared)
  pub distinct : are_distinct (names_in declared) ≡ true
  pub goes : Goes ks F told d
  pub standing : d.state.standing ≡ Inside (opened F.name (before_children kind at)) F.above

-- behind `at` of its particles and so many copies of the next one, where nothing more is looked at
pub record IsBetween (ks : List PlainKind) (F : Frame) (attributes : List AttributeOf) (declared : List PlainParticle) (at copies : ℕ) (told : List Event) (d : Seen) : Type 0 where
  pub kind : ℕ
  pub is_kind : slice_get ks kind ≡ Some (containing attributes declared)
  pub distinct : are_distinct (names_in declared) ≡ true
  pub goes : Goes ks F told d
  pub standing : d.state.standing ≡ Inside (opened F.name (at_particle kind (length attributes) at copies)) F.above

-- the child that has started, or none where the element has ended
abbrev pub IsChild : List PlainKind → Frame → Place → ℕ → ℕ → ℕ → List PlainParticle → List Event → Seen → Option ℕ → Type 0
IsChild ks F here attributes at copies particles told d None =
    ((code : ℕ) × (slice_get (element_steps here attributes at copies particles) code ≡ Some End))
    × Goes ks F (EndElement ∷ told) d
    × (d.state.standing ≡ around F.above)
IsChild ks F here attributes at copies particles told d (Some name) =
    (code : ℕ) × (inner : ℕ) × (next : Place)
    × (slice_get (element_steps here attributes at copies particles) code ≡ Some (element name inner next))
    × Goes ks F (Start name ∷ told) d
    × (d.state.standing ≡ Inside (opened name (first inner)) (opened F.name next ∷ F.above))

-- behind `at` of the particles of an element and so many copies of the next one, where a child has started or the element has ended
pub record ReadsFrom (ks : List PlainKind) (F : Frame) (attributes : List AttributeOf) (declared : List PlainParticle) (at copies : ℕ) (told : List Event) (d : Seen) : Type 0 where
  pub kind : ℕ
  pub is_kind : slice_get ks kind ≡ Some (containing attributes declared)
  pub distinct : are_distinct (names_in declared) ≡ true
  pub here : Place
  pub of_kind : here.kind ≡ kind
  pub child : IsChild ks F here (length attributes) at copies (drop at declared) told d d.child

abbrev pub Reads : List PlainKind → Frame → List AttributeOf → List PlainParticle → ℕ → List Event → Seen → Type 0
Reads ks F attributes declared at told d = ReadsFrom ks F attributes declared at 0 told d

-- the child that has started is one of these, which may stand there
pub record IsChosen (ks : List PlainKind) (F : Frame) (alternatives : List (ℕ × ℕ)) (told : List Event) (d : Seen) : Type 0 where
  pub kind : ℕ
  pub here : d.child ≡ Some F.name
  pub among : kind_among alternatives F.name ≡ Some kind
  pub enters : Enters ks F kind told d

-- ---- the root

-- nothing is taken
pub record Begins (s : PlainSchema) (bits : List Bool) (d : Seen) : Type 0 where
  pub schema_is : d.schema ≡ s
  pub bits_are : d.cursor.bits ≡ bits
  pub none_refused : d.refused ≡ None
  pub standing : d.state.standing ≡ Before
  pub told : ToldUpTo s [] d.state d.cursor

abbrev pub root_frame : PlainSchema → List Bool → ℕ → Frame
root_frame s bits name = record { schema = s; bits = bits; name = name; above = [] }

-- a document number is told, which names a root
pub record IsNumbered (s : PlainSchema) (bits : List Bool) (d : Seen) : Type 0 where
  pub schema_is : d.schema ≡ s
  pub bits_are : d.cursor.bits ≡ bits
  pub none_refused : d.refused ≡ None
  pub number : ℕ
  pub name : ℕ
  pub kind : ℕ
  pub named : IsRoot s.roots s.root_bits number (Kind name kind)
  pub standing : d.state.standing ≡ AtRoot name kind
  pub told : ToldUpTo s (Document number ∷ []) d.state d.cursor

-- and the start of the root
pub record IsAtRoot (s : PlainSchema) (bits : List Bool) (d : Seen) : Type 0 where
  pub number : ℕ
  pub name : ℕ
  pub kind : ℕ
  pub named : IsRoot s.roots s.root_bits number (Kind name kind)
  pub child : d.child ≡ Some name
  pub enters : Enters (s.kinds) (root_frame s bits name) kind (Start name ∷ Document number ∷ []) d
