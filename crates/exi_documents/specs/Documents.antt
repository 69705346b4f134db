-- W3C EXI 1.0 (Second Edition) 8.5.4, Schema-informed Element and Type Grammars, 8.4.1, Schema-informed Document Grammar, and 5, EXI
-- Header: the bits that spell a tree, a document and its one encoding.
use Rattle.std.specs.Prelude.{◌≡◌, ℕ, ◌<◌, Bool, false, List, [], ◌∷◌, ◌++◌, length, replicate, Some, slice_get}
use Rattle.exi_strings.specs.Bits.{number_bits, bits_of}
use Rattle.exi_strings.specs.Items.{SpellsNumber}
use Rattle.exi_schema.specs.declared.places.Place.{Place}
use Rattle.exi_schema.specs.declared.places.Root.TheVariants.{Kind}
use Rattle.exi_schema.specs.declared.places.Step.{Step}
use Rattle.exi_schema.specs.declared.places.Step.TheVariants.{Attribute, Element, End}
use Rattle.exi_schema.specs.Schemas.{PlainSchema}
use Rattle.exi_schema.specs.declared.tables.Datatype.{Datatype}
use Rattle.exi_schema.specs.Plain.{PlainKind}
use Rattle.exi_schema.specs.declared.tables.MemberStanding.TheVariants.{Taken}
use Rattle.exi_schema.specs.Offers.{offers, IsWidth}
use Rattle.exi_schema.specs.Steps.{IsRoot, simple_at}
use Rattle.exi_documents.specs.Trees.{Value, Trees, none, simple, complex, Tree, Simple, Complex}
use Rattle.exi_documents.specs.Values.{Entries, SpellsValue, WritesValue}

-- how a value is spelled: in any way, or as it is written
abbrev pub Speller : Type 1
Speller = Datatype → Entries → ℕ → Value → List Bool → Entries → Type 0

-- the first place of an element of a kind
abbrev pub first : ℕ → Place
first kind = record { kind = kind; particle = 0; copies = 0; attributes = 0 }

-- the event code of what is offered at a place
pub record SpellsStep (kinds : List PlainKind) (here : Place) (step : Step) (bits : List Bool) : Type 0 where
  pub code : ℕ
  pub width : ℕ
  pub is_width : IsWidth (length (offers kinds here)) width
  pub offered : slice_get (offers kinds here) code ≡ Some step
  pub spelled : SpellsNumber width code bits

-- an element that may be there, and a place behind it
abbrev pub element : ℕ → ℕ → Place → Step
element name kind next = Element name kind next Taken false

-- behind the code that starts it, an element of a simple kind: its characters and its end, each the one code of its place
pub record SpellsSimple (V : Speller) (kinds : List PlainKind) (kind : ℕ) (entries : Entries) (name : ℕ) (value : Value) (bits : List Bool) (after : Entries) : Type 0 where
  pub datatype : Datatype
  pub is_simple : simple_at kinds kind ≡ Some datatype
  pub inside : List Bool
  pub spelled : V datatype entries name value inside after
  pub bits_are : bits ≡ number_bits 1 0 ++ (inside ++ number_bits 1 0)

-- an attribute, and what stands behind it
pub record SpellsAttribute (V : Speller) (kinds : List PlainKind) (here : Place) (entries : Entries) (name : ℕ) (value : Value) (Behind : Place → Entries → List Bool → Type 0) (bits : List Bool) : Type 0 where
  pub kind : ℕ
  pub next : Place
  pub datatype : Datatype
  pub middle : Entries
  pub code : List Bool
  pub inside : List Bool
  pub rest : List Bool
  pub starts : SpellsStep kinds here (Attribute name kind next) code
  pub is_simple : simple_at kinds kind ≡ Some datatype
  pub spelled : V datatype entries name value inside middle
  pub behind : Behind next middle rest
  pub bits_are : bits ≡ code ++ (inside ++ rest)

-- attributes from a place on, and the place behind them
abbrev pub SpellsAttributes : Speller → List PlainKind → Place → Entries → List (ℕ × Value) → List Bool → Place → Entries → Type 0
SpellsAttributes V kinds here entries [] bits there after = (bits ≡ []) × (there ≡ here) × (after ≡ entries)
SpellsAttributes V kinds here entries (attribute ∷ attributes) bits there after =
    SpellsAttribute V kinds here entries attribute.0 attribute.1 (λ next middle rest. SpellsAttributes V kinds next middle attributes rest there after) bits

-- behind the code that starts it, an element of a complex kind: its attributes, then its children and its end
pub record SpellsComplex (V : Speller) (kinds : List PlainKind) (kind : ℕ) (entries : Entries) (attributes : List (ℕ × Value)) (Children : Place → Entries → List Bool → Type 0) (bits : List Bool) : Type 0 where
  pub there : Place
  pub within : Entries
  pub front : List Bool
  pub inside : List Bool
  pub begun : SpellsAttributes V kinds (first kind) entries attributes front there within
  pub ended : Children there within inside
  pub bits_are : bits ≡ front ++ inside

-- an element of some kind: the code that starts it, what is inside, and what stands behind its end
pub record SpellsElement (kinds : List PlainKind) (here : Place) (name : ℕ) (Inside : ℕ → List Bool → Entries → Type 0) (Behind : Place → Entries → List Bool → Type 0) (bits : List Bool) : Type 0 where
  pub kind : ℕ
  pub next : Place
  pub middle : Entries
  pub code : List Bool
  pub inside : List Bool
  pub rest : List Bool
  pub starts : SpellsStep kinds here (element name kind next) code
  pub spelled : Inside kind inside middle
  pub behind : Behind next middle rest
  pub bits_are : bits ≡ code ++ (inside ++ rest)

-- the elements from a place on, and the end of the element that they stand in
abbrev pub SpellsTrees : Speller → List PlainKind → Place → Entries → Trees → List Bool → Entries → Type 0
SpellsTrees V kinds here entries none bits after = SpellsStep kinds here End bits × (after ≡ entries)
SpellsTrees V kinds here entries (simple name value more) bits after =
    SpellsElement kinds here name
    (λ kind inside middle. SpellsSimple V kinds kind entries name value inside middle)
    (λ next middle rest. SpellsTrees V kinds next middle more rest after)
    bits
SpellsTrees V kinds here entries (complex name attributes children more) bits after =
    SpellsElement kinds here name
    (λ kind inside middle. SpellsComplex V kinds kind entries attributes (λ there within bits. SpellsTrees V kinds there within children bits middle) inside)
    (λ next middle rest. SpellsTrees V kinds next middle more rest after)
    bits

-- the root: an element of its kind
abbrev pub SpellsTree : Speller → List PlainKind → ℕ → Entries → Tree → List Bool → Entries → Type 0
SpellsTree V kinds kind entries (Simple name value) bits after = SpellsSimple V kinds kind entries name value bits after
SpellsTree V kinds kind entries (Complex name attributes children) bits after =
    SpellsComplex V kinds kind entries attributes (λ there within inside. SpellsTrees V kinds there within children inside after) bits

abbrev pub name_of : Tree → ℕ
name_of (Simple name value) = name
name_of (Complex name attributes children) = name

-- the header of a document without cookie and options
abbrev pub header : List Bool
header = number_bits 8 128

-- a document without the bits that fill its last byte: the header, its number, which names the root, and the root
pub record SpellsDocument (V : Speller) (s : PlainSchema) (number : ℕ) (tree : Tree) (bits : List Bool) : Type 0 where
  pub kind : ℕ
  pub front : List Bool
  pub inside : List Bool
  pub after : Entries
  pub named : IsRoot s.roots s.root_bits number (Kind (name_of tree) kind)
  pub numbered : SpellsNumber s.root_bits number front
  pub spelled : SpellsTree V s.kinds kind [] tree inside after
  pub bits_are : bits ≡ header ++ (front ++ inside)

-- a payload spells a tree. Any bits fill its last byte (own)
pub record IsDocument (s : PlainSchema) (tree : Tree) (payload : List ℕ) : Type 0 where
  pub number : ℕ
  pub bits : List Bool
  pub pad : List Bool
  pub spelled : SpellsDocument SpellsValue s number tree bits
  pub few : length pad < 8
  pub bits_are : bits_of payload ≡ bits ++ pad

-- the one payload that is written for a tree (own)
pub record IsEncoding (s : PlainSchema) (tree : Tree) (payload : List ℕ) : Type 0 where
  pub number : ℕ
  pub bits : List Bool
  pub pad : ℕ
  pub spelled : SpellsDocument WritesValue s number tree bits
  pub few : pad < 8
  pub bits_are : bits_of payload ≡ bits ++ replicate pad false
