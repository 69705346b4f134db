-- Own: what makes the events, the tree and the refusal of a payload one.
use Rattle.std.specs.Prelude.{◌≡◌, ℕ, ◌^◌, ◌<◌, ◌≤◌, ◌⊎◌, Bool, true, List, ◌++◌, length, reverse, FitsSigned}
use Rattle.std.specs.Int.{w64}
use Rattle.std.specs.List.{AllByRecursion}
use Rattle.exi_spec.specs.Laws.{IsExact}
use Rattle.exi_schema.specs.declared.tables.Datatype.{Datatype}
use Rattle.exi_schema.specs.declared.tables.Datatype.TheVariants.{Bool as BoolType, Named, Bounded, Unsigned, Signed, Binary, Text}
use Rattle.exi_schema.specs.Plain.{PlainKind}
use Rattle.exi_schema.specs.Schemas.{PlainSchema, attribute_names, element_names, are_distinct}
use Rattle.exi_schema.specs.declared.places.Place.{Place}
use Rattle.exi_schema.specs.Offers.{offers, IsPlace}
use Rattle.exi_documents.specs.declared.refusal.RefusalCause.{RefusalCause}
use Rattle.exi_documents.specs.Trees.{Value, Tree, Event, document_events}
use Rattle.exi_documents.specs.Values.{Entries, most_entries, SpellsValue, WritesValue, RefusesValue}
use Rattle.exi_documents.specs.Documents.{Speller, SpellsDocument, IsDocument, IsEncoding}
use Rattle.exi_documents.specs.Grammar.{Standing, Before, AtRoot, Inside, Behind, State, stands, Moves, Reaches}
use Rattle.exi_documents.specs.Refusals.{RefusesNext, IsRefused}

-- ---- events and trees

-- events up to the end of a root are those of a tree that the same bits spell
abbrev pub TellsOf : Speller → PlainSchema → List Event → List Bool → Type 0
TellsOf V s events bits =
    (number : ℕ) × (tree : Tree) × (events ≡ reverse (document_events number tree)) × SpellsDocument V s number tree bits

-- the bits of a document spell the events of its tree, and lead behind its root
abbrev pub IsToldBy : Speller → PlainSchema → ℕ → Tree → List Bool → Type 0
IsToldBy V s number tree bits =
    (entries : Entries) × Reaches V s (reverse (document_events number tree)) bits (stands Behind entries)

pub record TellTrees (V : Speller) (s : PlainSchema) : Type 0 where
  pub told : (events : List Event) (bits : List Bool) (entries : Entries) → Reaches V s events bits (stands Behind entries) → TellsOf V s events bits
  pub tells : (number : ℕ) (tree : Tree) (bits : List Bool) → SpellsDocument V s number tree bits → IsToldBy V s number tree bits

-- ---- values

-- why an item can't be taken, and at which of its bits
abbrev pub Fault : Type 0
Fault = RefusalCause × ℕ

-- bits begin with one value and what is entered behind it, or have one refusal
abbrev pub IsValueExact : Datatype → Entries → ℕ → Type 0
IsValueExact d entries name =
    IsExact (λ (v : Value × Entries) bits. SpellsValue d entries name v.0 bits v.1) (λ bits (r : Fault). RefusesValue d entries name bits r.0 r.1)

-- ---- offers

-- no two elements and no two attributes of one name are offered
pub record OffersOnce (kinds : List PlainKind) (here : Place) : Type 0 where
  pub elements : are_distinct (element_names (offers kinds here)) ≡ true
  pub attributes : are_distinct (attribute_names (offers kinds here)) ≡ true

-- ---- events

abbrev pub IsStanding : PlainSchema → Standing → Type 0
IsStanding s Before = Unit {0}
IsStanding s (AtRoot name kind) = kind < length s.kinds
IsStanding s (Inside top above) = IsPlace s.kinds top.place × AllByRecursion (λ o. IsPlace s.kinds o.place) above
IsStanding s Behind = Unit {0}

-- a state of a document of the schema: its places are the schema's, and no more texts are entered than may be
abbrev pub IsState : PlainSchema → State → Type 0
IsState s state = IsStanding s state.standing × (length state.entries ≤ most_entries)

-- more events follow
abbrev pub GoesOn : Standing → Type 0
GoesOn Before = Unit {0}
GoesOn (AtRoot name kind) = Unit {0}
GoesOn (Inside top above) = Unit {0}
GoesOn Behind = ⊥

-- events that come without bits: the start of the root, and before the document the document itself is counted too
abbrev pub weight : Standing → ℕ
weight Before = 2
weight (AtRoot name kind) = 1
weight (Inside top above) = 0
weight Behind = 0

-- bits begin with one event, which leads to one state, or have one refusal
abbrev pub IsEventExact : PlainSchema → State → Type 0
IsEventExact s state =
    IsExact (λ (m : Event × State) bits. Moves SpellsValue s state m.0 bits m.1) (λ bits (r : Fault). RefusesNext s state bits r.0 r.1)

-- ---- documents

-- two documents that begin one list of bits are one document of one tree
abbrev pub IsPrefixFree : PlainSchema → Type 0
IsPrefixFree s =
    (n m : ℕ) (t u : Tree) (a b x y : List Bool) → SpellsDocument SpellsValue s n t a → SpellsDocument SpellsValue s m u b → a ++ x ≡ b ++ y → (a ≡ b) × (n ≡ m) × (t ≡ u)

-- a payload spells one tree or has one refusal, not both
pub record IsDecided (s : PlainSchema) (payload : List ℕ) : Type 0 where
  pub decided : ((tree : Tree) × IsDocument s tree payload) ⊎ ((why : RefusalCause) × (bit : ℕ) × IsRefused s payload why bit)
  pub apart : (tree : Tree) (why : RefusalCause) (bit : ℕ) → IsDocument s tree payload → IsRefused s payload why bit → ⊥
  pub one_tree : (t u : Tree) → IsDocument s t payload → IsDocument s u payload → t ≡ u
  pub one_refusal : (why other : RefusalCause) (bit place : ℕ) → IsRefused s payload why bit → IsRefused s payload other place → (why ≡ other) × (bit ≡ place)

-- ---- what is written

-- the bounds of a datatype are numbers of their types
abbrev pub IsInRange : Datatype → Type 0
IsInRange BoolType = Unit {0}
IsInRange (Named count) = Unit {0}
IsInRange (Bounded least count) = Unit {0}
IsInRange (Unsigned most) = most < 2 ^ 64
IsInRange (Signed least most) = FitsSigned w64 least × FitsSigned w64 most
IsInRange (Binary most) = most < 2 ^ 32
IsInRange (Text most) = most < 2 ^ 32

-- a value is spelled in one way
abbrev pub WritesOnce : Speller → Type 0
WritesOnce V =
    (d : Datatype) (entries : Entries) (name : ℕ) (v : Value) (a b : List Bool) (after other : Entries) →
    V d entries name v a after → V d entries name v b other → (a ≡ b) × (after ≡ other)

-- what is written is a spelling
abbrev pub IsSpelled : Datatype → Entries → ℕ → Value → Type 0
IsSpelled d entries name v =
    (bits : List Bool) (after : Entries) → WritesValue d entries name v bits after → SpellsValue d entries name v bits after

-- a payload is bytes
abbrev pub AreBytes : List ℕ → Type 0
AreBytes payload = AllByRecursion (λ byte. byte < 256) payload

-- a tree has one encoding at most
abbrev pub IsOneEncoding : PlainSchema → Type 0
IsOneEncoding s =
    (tree : Tree) (payload other : List ℕ) → AreBytes payload → AreBytes other → IsEncoding s tree payload → IsEncoding s tree other → payload ≡ other
