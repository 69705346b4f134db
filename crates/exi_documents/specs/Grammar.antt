-- W3C EXI 1.0 (Second Edition) 8, EXI Grammars: how a document goes from one event to the next.
use Rattle.std.specs.Prelude.{◌≡◌, ℕ, Bool, List, [], ◌∷◌, ◌++◌, Some}
use Rattle.exi_strings.specs.Items.{SpellsNumber}
use Rattle.exi_schema.specs.declared.places.Place.{Place}
use Rattle.exi_schema.specs.declared.places.Root.TheVariants.{Kind}
use Rattle.exi_schema.specs.declared.places.Step.TheVariants as step
use Rattle.exi_schema.specs.Schemas.{PlainSchema}
use Rattle.exi_schema.specs.declared.tables.Datatype.{Datatype}
use Rattle.exi_schema.specs.Steps.{IsRoot, simple_at}
use Rattle.exi_documents.specs.Trees.{Value, Event, Document, Start, Attribute, Content, EndElement}
use Rattle.exi_documents.specs.Values.{Entries}
use Rattle.exi_documents.specs.Documents.{Speller, SpellsStep, element, first, header}

-- an element that has started and not ended: the number of its name, and the place reached in it
pub record Opened : Type 0 where
  pub name : ℕ
  pub place : Place

-- before the document; behind its number, which named the root and its kind; inside an element, the innermost one first; behind the root
pub data Standing : Type 0 where
  Before : Standing
  AtRoot : ℕ → ℕ → Standing
  Inside : Opened → List Opened → Standing
  Behind : Standing

-- with the texts entered so far
pub record State : Type 0 where
  pub standing : Standing
  pub entries : Entries

abbrev pub start : State
start = record { standing = Before; entries = [] }

abbrev pub opened : ℕ → Place → Opened
opened name place = record { name = name; place = place }

-- behind the end of an element the one around it goes on
abbrev pub around : List Opened → Standing
around [] = Behind
around (open_one ∷ above) = Inside open_one above

abbrev pub stands : Standing → Entries → State
stands standing entries = record { standing = standing; entries = entries }

-- the header and the number of a root
pub record OpensDocument (s : PlainSchema) (number : ℕ) (bits : List Bool) (entries : Entries) (new : State) : Type 0 where
  pub name : ℕ
  pub kind : ℕ
  pub front : List Bool
  pub named : IsRoot s.roots s.root_bits number (Kind name kind)
  pub numbered : SpellsNumber s.root_bits number front
  pub bits_are : bits ≡ header ++ front
  pub leads : new ≡ stands (AtRoot name kind) entries

-- an element that is offered; the place behind it stands in the one around it
pub record OpensElement (s : PlainSchema) (top : Opened) (above : List Opened) (entries : Entries) (name : ℕ) (bits : List Bool) (new : State) : Type 0 where
  pub kind : ℕ
  pub next : Place
  pub starts : SpellsStep s.kinds top.place (element name kind next) bits
  pub leads : new ≡ stands (Inside (opened name (first kind)) (opened top.name next ∷ above)) entries

-- an attribute that is offered, and its value
pub record TakesAttribute (V : Speller) (s : PlainSchema) (top : Opened) (above : List Opened) (entries : Entries) (name : ℕ) (value : Value) (bits : List Bool) (new : State) : Type 0 where
  pub kind : ℕ
  pub next : Place
  pub datatype : Datatype
  pub after : Entries
  pub code : List Bool
  pub inside : List Bool
  pub starts : SpellsStep s.kinds top.place (step.Attribute name kind next) code
  pub is_simple : simple_at s.kinds kind ≡ Some datatype
  pub spelled : V datatype entries name value inside after
  pub bits_are : bits ≡ code ++ inside
  pub leads : new ≡ stands (Inside (opened top.name next) above) after

-- the value of an element, where one is offered
pub record TakesContent (V : Speller) (s : PlainSchema) (top : Opened) (above : List Opened) (entries : Entries) (value : Value) (bits : List Bool) (new : State) : Type 0 where
  pub next : Place
  pub datatype : Datatype
  pub after : Entries
  pub code : List Bool
  pub inside : List Bool
  pub starts : SpellsStep s.kinds top.place (step.Characters next) code
  pub is_simple : simple_at s.kinds top.place.kind ≡ Some datatype
  pub spelled : V datatype entries top.name value inside after
  pub bits_are : bits ≡ code ++ inside
  pub leads : new ≡ stands (Inside (opened top.name next) above) after

abbrev pub ClosesElement : PlainSchema → Opened → List Opened → Entries → List Bool → State → Type 0
ClosesElement s top above entries bits new =
    SpellsStep s.kinds top.place step.End bits × (new ≡ stands (around above) entries)

-- an event, the bits that spell it, and what comes behind it
abbrev pub MovesFrom : Speller → PlainSchema → Standing → Entries → Event → List Bool → State → Type 0
MovesFrom V s Before entries (Document number) bits new = OpensDocument s number bits entries new
MovesFrom V s (AtRoot root kind) entries (Start name) bits new =
    (name ≡ root) × (bits ≡ []) × (new ≡ stands (Inside (opened name (first kind)) []) entries)
MovesFrom V s (Inside top above) entries (Start name) bits new = OpensElement s top above entries name bits new
MovesFrom V s (Inside top above) entries (Attribute name value) bits new = TakesAttribute V s top above entries name value bits new
MovesFrom V s (Inside top above) entries (Content value) bits new = TakesContent V s top above entries value bits new
MovesFrom V s (Inside top above) entries EndElement bits new = ClosesElement s top above entries bits new
MovesFrom V s _ entries _ bits new = ⊥

abbrev pub Moves : Speller → PlainSchema → State → Event → List Bool → State → Type 0
Moves V s old event bits new = MovesFrom V s old.standing old.entries event bits new

-- the events so far, the newest first, are spelled by these bits and lead to a state
abbrev pub Reaches : Speller → PlainSchema → List Event → List Bool → State → Type 0
Reaches V s [] bits state = (bits ≡ []) × (state ≡ start)
Reaches V s (event ∷ events) bits state =
    (before : State) × (front : List Bool) × (rest : List Bool)
    × Reaches V s events front before
    × Moves V s before event rest state
    × (bits ≡ front ++ rest)
