-- Own: what follows in a text, and how it is taken. Where none of a language follows, the fault is behind the longest front that begins one.
use Rattle.std.specs.Prelude.{◌≡◌, ◌⊎◌, ℕ, ◌+◌, ◌<◌, ◌==◌, Bool, true, false, codes, List, [], ◌∷◌, ◌++◌, length, Option, Some, None}
use Rattle.std.specs.Str.{encode_utf8_all}
use Rattle.exi_schema.specs.Schemas.{PlainSchema}
use Rattle.exi_schema.specs.declared.tables.AttributeOf.{AttributeOf}
use Rattle.exi_schema.specs.declared.tables.Datatype.{Datatype}
use Rattle.exi_schema.specs.Steps.{simple_at}
use Rattle.exi_documents.specs.Trees.{Value, Event}
use Rattle.value_text.specs.declared.cursor.TextCursor.{TextCursor}
use Rattle.value_text.specs.Forms.{NoneNext}
use Rattle.value_text.specs.ValueText.{IsName, IsFormed}
use Rattle.value_text.specs.Scanning.{Passes, Takes, MissesAt, IsAnyFormed}
use Rattle.dialect_text.specs.declared.elements.Filling.{Filling}
use Rattle.dialect_text.specs.declared.elements.Filling.TheVariants as fills
use Rattle.dialect_text.specs.declared.elements.OpenElement.{OpenElement}
use Rattle.value_text.specs.declared.fault.ScanFault.{ScanFault}
use Rattle.value_text.specs.declared.fault.ScanFault.TheVariants as fault
use Rattle.dialect_text.specs.declared.said.Said.{Said}
use Rattle.dialect_text.specs.Dialect.{Standing, Within, element, attribute_of, element_of, gap, IsBeforeElements, IsValueOf, IsStartText, Adds}
use Rattle.dialect_text.specs.Languages.{Completes, Leads, Stalls}
use Rattle.dialect_text.specs.Scanning.{event_of}

-- ---- one event

-- what follows is of a language and begins with an event, and these are its characters behind those ahead
pub record TakesNext (s : PlainSchema) (ahead : List ℕ) (L : List ℕ → Type 0) (old : Standing) (before : TextCursor) (event : Event) (new : Standing) (after : TextCursor) : Type 0 where
  pub front : List ℕ
  pub adds : Adds s old event (ahead ++ encode_utf8_all front) new
  pub passes : Passes before front after
  pub leads : Leads L front after.rest.now (Completes s new)

-- no text of the language follows; the fault is behind the longest front that begins one
abbrev pub StallsAt : (List ℕ → Type 0) → TextCursor → ScanFault → Type 0
StallsAt L cursor (fault.Place place) = (front : List ℕ) × Stalls L cursor.rest.now front × (place ≡ cursor.place + length front)
StallsAt L cursor fault.Memory = Unit {0}

-- an event is taken, or the root and the text have ended
abbrev pub IsNext : PlainSchema → Standing → TextCursor → Standing → TextCursor → Option Said → Type 0
IsNext s old before new after (Some said) = TakesNext s [] (Completes s old) old before (event_of said) new after
IsNext s old before new after None = (old ≡ Within []) × (before.rest.now ≡ []) × (new ≡ old) × (after ≡ before)

-- a value of a simple kind stands there, or none does
abbrev pub TakesValueOf : PlainSchema → ℕ → Value → TextCursor → TextCursor → Type 0
TakesValueOf s kind value before after =
    (datatype : Datatype) × (front : List ℕ)
    × (simple_at s.kinds kind ≡ Some datatype)
    × Takes (IsAnyFormed s kind datatype) before front after
    × IsFormed s kind datatype value (encode_utf8_all front)

abbrev pub MissesValueOf : PlainSchema → ℕ → TextCursor → ScanFault → Type 0
MissesValueOf s kind cursor fault =
    (datatype : Datatype) × (simple_at s.kinds kind ≡ Some datatype) × MissesAt (IsAnyFormed s kind datatype) cursor fault

-- what stands before a part is passed, or another character or none stands there
abbrev pub PassesGap : Filling → Bool → TextCursor → TextCursor → Type 0
PassesGap filling true before after = Passes before (gap filling) after
PassesGap filling false before after = (after ≡ before) × (gap filling ≡ codes " ") × NoneNext (λ c. c == 32) before.rest.now

-- ---- inside an element, behind what stands before a part

-- the start of an element, and what may follow behind it
pub record StartsElement (s : PlainSchema) (top : OpenElement) (above : List OpenElement) (text : List ℕ) : Type 0 where
  pub name : ℕ
  pub kind : ℕ
  pub front : List ℕ
  pub rest : List ℕ
  pub declared : element_of s top.kind name ≡ Some kind
  pub starts : IsStartText s name kind front
  pub follows : Completes s (Within (element kind fills.Nothing ∷ element top.kind fills.Elements ∷ above)) rest
  pub text_is : text ≡ front ++ rest

-- a value of a kind, and a text of a language behind it
abbrev pub StartsValue : PlainSchema → ℕ → (List ℕ → Type 0) → List ℕ → Type 0
StartsValue s kind L text =
    (value : Value) × (said : List ℕ) × (rest : List ℕ) × IsValueOf s kind value said × L rest × (text ≡ said ++ rest)

-- behind its sign the name of an attribute, its value, and what may follow behind it
pub record StartsAttribute (s : PlainSchema) (top : OpenElement) (above : List OpenElement) (text : List ℕ) : Type 0 where
  pub name : ℕ
  pub kind : ℕ
  pub word : List ℕ
  pub rest : List ℕ
  pub declared : attribute_of s top.kind name ≡ Some kind
  pub named : IsName s name word
  pub follows : StartsValue s kind (Completes s (Within (element top.kind fills.Attributes ∷ above))) rest
  pub text_is : text ≡ word ++ 61 ∷ rest

abbrev pub StartsPart : PlainSchema → OpenElement → List OpenElement → List ℕ → Type 0
StartsPart s top above text =
    StartsElement s top above text
    ⊎ (IsBeforeElements top.filling × (rest : List ℕ) × StartsAttribute s top above rest × (text ≡ 64 ∷ rest))

-- attributes may follow what is in an element, and there are some
abbrev pub AwaitsAttribute : Filling → List AttributeOf → Bool → Type 0
AwaitsAttribute filling attributes true = IsBeforeElements filling × (0 < length attributes)
AwaitsAttribute filling attributes false = IsBeforeElements filling → attributes ≡ []
