-- Own: the first item of a payload that can't be taken, and why. The items are those of W3C EXI 1.0 (Second Edition): the header
-- byte (5), a document number (8.4.1), an event code (6.2), and those of a value (7.1).
use Rattle.std.specs.Prelude.{◌≡◌, ◌≢◌, ℕ, ◌+◌, ◌%◌, ◌≤◌, ◌==◌, if◌then◌else◌, ◌⊎◌, Bool, true, false, List, ◌++◌, length, take, Option, Some, None, slice_get}
use Rattle.exi_strings.specs.Bits.{bits_of}
use Rattle.exi_strings.specs.Items.{SpellsNumber, Begins, RefusesBits}
use Rattle.exi_schema.specs.declared.places.Place.{Place}
use Rattle.exi_schema.specs.declared.places.Root.{Root}
use Rattle.exi_schema.specs.declared.places.Root.TheVariants.{Kind, Unknown, NoSuch}
use Rattle.exi_schema.specs.declared.places.Step.{Step}
use Rattle.exi_schema.specs.declared.places.Step.TheVariants.{Attribute, Element, End, Characters}
use Rattle.exi_schema.specs.Schemas.{PlainSchema}
use Rattle.exi_schema.specs.declared.tables.Datatype.{Datatype}
use Rattle.exi_schema.specs.Plain.{PlainKind}
use Rattle.exi_schema.specs.declared.tables.MemberStanding.{MemberStanding}
use Rattle.exi_schema.specs.declared.tables.MemberStanding.TheVariants.{Taken, Abstract, OutOfProfile}
use Rattle.exi_schema.specs.Offers.{offers, IsWidth}
use Rattle.exi_schema.specs.Steps.{IsRoot, simple_at}
use Rattle.exi_documents.specs.declared.refusal.RefusalCause.{RefusalCause}
use Rattle.exi_documents.specs.declared.refusal.RefusalCause.TheVariants as cause
use Rattle.exi_documents.specs.Trees.{Event}
use Rattle.exi_documents.specs.Values.{Entries, SpellsValue, RefusesItem, RefusesValue}
use Rattle.exi_documents.specs.Documents.{SpellsStep, header}
use Rattle.exi_documents.specs.Grammar.{Opened, Standing, Before, AtRoot, Inside, Behind, State, Reaches}

-- ---- an event code

abbrev pub standing_cause : ℕ → MemberStanding → Option RefusalCause
standing_cause name Taken = None
standing_cause name Abstract = Some cause.Abstract
standing_cause name OutOfProfile = Some (cause.OutOfProfile name)

-- what is wrong with a step that is offered. One copy more than the profile allows goes before the others
abbrev pub step_cause : Step → Option RefusalCause
step_cause (Attribute name kind next) = None
step_cause (Element name kind next standing true) = Some cause.TooLong
step_cause (Element name kind next standing false) = standing_cause name standing
step_cause End = None
step_cause (Characters next) = None

-- what is wrong with a code. The first behind those offered is the escape
abbrev pub code_cause : ℕ → ℕ → Option Step → Option RefusalCause
code_cause count code (Some step) = step_cause step
code_cause count code None = Some (if code == count then cause.Deviation else cause.NoSuchCode)

pub record RefusesStep (kinds : List PlainKind) (here : Place) (bits : List Bool) (why : RefusalCause) : Type 0 where
  pub width : ℕ
  pub is_width : IsWidth (length (offers kinds here)) width
  pub refused :
      RefusesItem (RefusesBits width) bits why
      ⊎ ((code : ℕ) × Begins (SpellsNumber width code) bits
      × (code_cause (length (offers kinds here)) code (slice_get (offers kinds here) code) ≡ Some why))

-- ---- the value of an attribute or of an element

-- behind the code of a step the bits of a value can't be taken
pub record RefusesBehindStep (kinds : List PlainKind) (here : Place) (step : Step) (Refuses : List Bool → RefusalCause → ℕ → Type 0) (bits : List Bool) (why : RefusalCause) (at : ℕ) : Type 0 where
  pub code : List Bool
  pub rest : List Bool
  pub behind : ℕ
  pub taken : SpellsStep kinds here step code
  pub bits_are : bits ≡ code ++ rest
  pub refused : Refuses rest why behind
  pub place : at ≡ length code + behind

abbrev pub RefusesAttribute : List PlainKind → Opened → Entries → List Bool → RefusalCause → ℕ → Type 0
RefusesAttribute kinds top entries bits why at =
    (name : ℕ) × (kind : ℕ) × (next : Place) × (datatype : Datatype)
    × (simple_at kinds kind ≡ Some datatype)
    × RefusesBehindStep kinds top.place (Attribute name kind next) (RefusesValue datatype entries name) bits why at

abbrev pub RefusesContent : List PlainKind → Opened → Entries → List Bool → RefusalCause → ℕ → Type 0
RefusesContent kinds top entries bits why at =
    (next : Place) × (datatype : Datatype)
    × (simple_at kinds top.place.kind ≡ Some datatype)
    × RefusesBehindStep kinds top.place (Characters next) (RefusesValue datatype entries top.name) bits why at

-- ---- the front of a document

abbrev pub root_cause : Root → Option RefusalCause
root_cause (Kind name kind) = None
root_cause Unknown = Some cause.UnknownElement
root_cause NoSuch = Some cause.NoSuchCode

abbrev pub RefusesNumber : PlainSchema → List Bool → RefusalCause → Type 0
RefusesNumber s bits why =
    RefusesItem (RefusesBits s.root_bits) bits why
    ⊎ ((number : ℕ) × (root : Root) × Begins (SpellsNumber s.root_bits number) bits
    × IsRoot s.roots s.root_bits number root × (root_cause root ≡ Some why))

abbrev pub RefusesHeader : List Bool → RefusalCause → Type 0
RefusesHeader bits why =
    RefusesItem (RefusesBits 8) bits why ⊎ ((8 ≤ length bits) × (take 8 bits ≢ header) × (why ≡ cause.BadHeader))

abbrev pub RefusesFront : PlainSchema → List Bool → RefusalCause → ℕ → Type 0
RefusesFront s bits why at =
    (RefusesHeader bits why × (at ≡ 0))
    ⊎ ((rest : List Bool) × (bits ≡ header ++ rest) × RefusesNumber s rest why × (at ≡ 8))

-- ---- a payload

-- of the bits from an event on, why it can't be taken, and at which of them. Behind the root less than a byte may follow; a whole
-- one has its place behind the byte in which the root ends
abbrev pub RefusesFrom : PlainSchema → Standing → Entries → List Bool → RefusalCause → ℕ → Type 0
RefusesFrom s Before entries bits why at = RefusesFront s bits why at
RefusesFrom s (AtRoot name kind) entries bits why at = ⊥
RefusesFrom s (Inside top above) entries bits why at =
    (RefusesStep s.kinds top.place bits why × (at ≡ 0))
    ⊎ (RefusesAttribute s.kinds top entries bits why at ⊎ RefusesContent s.kinds top entries bits why at)
RefusesFrom s Behind entries bits why at = (8 ≤ length bits) × (why ≡ cause.Trailing) × (at ≡ length bits % 8)

abbrev pub RefusesNext : PlainSchema → State → List Bool → RefusalCause → ℕ → Type 0
RefusesNext s state bits why at = RefusesFrom s state.standing state.entries bits why at

-- the bits before one spell events that begin a document, and the item there can't be taken
pub record IsRefused (s : PlainSchema) (payload : List ℕ) (why : RefusalCause) (bit : ℕ) : Type 0 where
  pub events : List Event
  pub state : State
  pub front : List Bool
  pub rest : List Bool
  pub at : ℕ
  pub reached : Reaches SpellsValue s events front state
  pub bits_are : bits_of payload ≡ front ++ rest
  pub refused : RefusesNext s state rest why at
  pub place : bit ≡ length front + at
