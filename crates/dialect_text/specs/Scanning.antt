-- Own: where a scanner stands in a text: what it has told and read, and what it will tell.
use Rattle.std.specs.Prelude.{◌≡◌, ℕ, ◌+◌, ◌*◌, ◌-◌, ◌<◌, true, List, [], ◌∷◌, ◌++◌, length, sum_by, Option, Some, None}
use Rattle.std.specs.List.{AllByRecursion}
use Rattle.std.specs.Str.{encode_utf8_all, IsUtf8}
use Rattle.exi_schema.specs.Schemas.{PlainSchema, is_within}
use Rattle.exi_schema.specs.declared.tables.Datatype.{Datatype}
use Rattle.exi_schema.specs.Steps.{simple_at}
use Rattle.exi_documents.specs.Trees.{Event, Document, Start, Attribute, Content, EndElement}
use Rattle.value_text.specs.declared.cursor.TextCursor.{TextCursor}
use Rattle.value_text.specs.Scanning.{meaning}
use Rattle.dialect_text.specs.declared.elements.Filling.{Filling}
use Rattle.dialect_text.specs.declared.elements.Filling.TheVariants as fills
use Rattle.dialect_text.specs.declared.elements.OpenElement.{OpenElement}
use Rattle.value_text.specs.declared.fault.ScanFault.{ScanFault}
use Rattle.value_text.specs.declared.fault.ScanFault.TheVariants as fault
use Rattle.dialect_text.specs.declared.phase.Phase.{Phase}
use Rattle.dialect_text.specs.declared.phase.Phase.TheVariants as phase
use Rattle.dialect_text.specs.declared.said.Said.{Said}
use Rattle.dialect_text.specs.declared.said.Said.TheVariants as said
use Rattle.dialect_text.specs.Dialect.{Standing, Before, AtRoot, Within, element, attribute_of, element_of, Says, IsOfDialect, IsFault}
use Rattle.dialect_text.specs.Languages.{Completes, Leads}

-- ---- events

-- what is said, as an event of a document
abbrev pub event_of : Said → Event
event_of (said.Document number) = Document number
event_of (said.Start name) = Start name
event_of (said.Attribute name scanned) = Attribute name (meaning scanned)
event_of (said.Content scanned) = Content (meaning scanned)
event_of said.EndElement = EndElement

-- the text is at fault so. Want of memory comes freely
abbrev pub IsFaultOf : PlainSchema → List ℕ → ScanFault → Type 0
IsFaultOf s text (fault.Place place) = IsFault s text place
IsFaultOf s text fault.Memory = Unit {0}

-- ---- standings

abbrev pub standing_of : Phase → List OpenElement → Standing
standing_of phase.Before elements = Before
standing_of (phase.AtRoot name kind) elements = AtRoot name kind
standing_of phase.Inside elements = Within elements

-- what is in an element may be in one of its kind
abbrev pub IsFilled : PlainSchema → ℕ → Filling → Type 0
IsFilled s kind fills.Nothing = Unit {0}
IsFilled s kind fills.Attributes = (name : ℕ) × (inner : ℕ) × (attribute_of s kind name ≡ Some inner)
IsFilled s kind fills.Elements = (name : ℕ) × (inner : ℕ) × (element_of s kind name ≡ Some inner)
IsFilled s kind fills.Value = (datatype : Datatype) × (simple_at s.kinds kind ≡ Some datatype)

-- each element is of a kind of the schema, and at most the sixteenth inside one another: its kind has room below it
abbrev pub AreOpen : PlainSchema → List OpenElement → Type 0
AreOpen s [] = Unit {0}
AreOpen s (top ∷ above) =
    (top.kind < length s.kinds)
    × (is_within s.kinds (16 - length above) top.kind ≡ true)
    × IsFilled s top.kind top.filling
    × AreOpen s above

-- each element but the innermost has an element in it
abbrev pub IsNested : Standing → Type 0
IsNested Before = Unit {0}
IsNested (AtRoot name kind) = Unit {0}
IsNested (Within []) = Unit {0}
IsNested (Within (top ∷ above)) = AllByRecursion (λ e. e.filling ≡ fills.Elements) above

abbrev pub IsOpen : PlainSchema → Standing → Type 0
IsOpen s Before = Unit {0}
IsOpen s (AtRoot name kind) = (kind < length s.kinds) × (is_within s.kinds 16 kind ≡ true)
IsOpen s (Within elements) = AreOpen s elements

abbrev pub IsSound : PlainSchema → Standing → Type 0
IsSound s standing = IsOpen s standing × IsNested standing

-- ---- a scanner

-- the events so far, the newest first, are those of the text up to the cursor
pub record HasSaid (s : PlainSchema) (text : List ℕ) (events : List Event) (standing : Standing) (cursor : TextCursor) : Type 0 where
  pub front : List ℕ
  pub says : Says s events (encode_utf8_all front) standing
  pub stands : text ≡ encode_utf8_all front ++ cursor.rest.now
  pub place : cursor.place ≡ length front

-- each text of the dialect that goes on as this one does at the cursor says what was said
pub record HasRead (s : PlainSchema) (text : List ℕ) (standing : Standing) (cursor : TextCursor) : Type 0 where
  pub front : List ℕ
  pub leads : Leads (IsOfDialect s) front cursor.rest.now (Completes s standing)
  pub stands : text ≡ encode_utf8_all front ++ cursor.rest.now
  pub place : cursor.place ≡ length front

abbrev pub IsAtFault : PlainSchema → List ℕ → Option ℕ → Type 0
IsAtFault s text None = Unit {0}
IsAtFault s text (Some place) = IsFault s text place

-- as a scanner is made, and as each call leaves it
pub record IsReady (s : PlainSchema) (text : List ℕ) (standing : Standing) (cursor : TextCursor) (fault : Option ℕ) : Type 0 where
  pub utf8 : IsUtf8 text
  pub sound : IsSound s standing
  pub read : HasRead s text standing cursor
  pub at_fault : IsAtFault s text fault

-- no more events than this are to come
abbrev pub weight : OpenElement → ℕ
weight element = weight_of element.filling
  where
    weight_of : Filling → ℕ
    weight_of fills.Nothing = 2
    weight_of fills.Attributes = 1
    weight_of fills.Elements = 1
    weight_of fills.Value = 1

abbrev pub events_within : Standing → ℕ
events_within Before = 0
events_within (AtRoot name kind) = 3
events_within (Within elements) = sum_by weight elements

abbrev pub events_left : Standing → TextCursor → ℕ
events_left standing cursor = 4 * length cursor.rest.now + events_within standing
