-- Own: the texts of the dialect of a schema, event by event. They are told by the kinds alone: inside an element of a kind stand attributes and
-- then elements that the kind declares and takes, in any order and number, and each value has the form of its datatype.
use Rattle.std.specs.Prelude.{◌≡◌, ℕ, ◌==◌, ◌&&◌, if◌then◌else◌, List, [], ◌∷◌, ◌++◌, length, codes, Option, Some, None, slice_get}
use Rattle.exi_schema.specs.declared.places.Root.TheVariants.{Kind}
use Rattle.exi_schema.specs.Schemas.{PlainSchema, is_taken}
use Rattle.exi_schema.specs.declared.tables.AttributeOf.{AttributeOf}
use Rattle.exi_schema.specs.declared.tables.Datatype.{Datatype}
use Rattle.exi_schema.specs.Plain.{PlainKind, valued, containing, PlainParticle}
use Rattle.exi_schema.specs.declared.tables.Member.{Member}
use Rattle.exi_schema.specs.Steps.{IsRoot, simple_at}
use Rattle.exi_documents.specs.Trees.{Value, Event, Document, Start, Attribute, Content, EndElement}
use Rattle.value_text.specs.ValueText.{IsName, IsFormed}
use Rattle.value_text.specs.Fronts.{IsLongest}
use Rattle.dialect_text.specs.declared.elements.Filling.{Filling}
use Rattle.dialect_text.specs.declared.elements.Filling.TheVariants as fills
use Rattle.dialect_text.specs.declared.elements.OpenElement.{OpenElement}

-- ---- what a kind declares and takes

-- the first of two that is there
abbrev pub or_else : Option ℕ → Option ℕ → Option ℕ
or_else (Some kind) other = Some kind
or_else None other = other

abbrev pub attribute_named : List AttributeOf → ℕ → Option ℕ
attribute_named [] name = None
attribute_named (attribute ∷ attributes) name =
    if attribute.name == name then Some attribute.kind else attribute_named attributes name

abbrev pub member_named : List Member → ℕ → Option ℕ
member_named [] name = None
member_named (member ∷ members) name =
    if is_taken member.standing && member.name == name then Some member.kind else member_named members name

abbrev pub element_named : List PlainParticle → ℕ → Option ℕ
element_named [] name = None
element_named (particle ∷ particles) name = or_else (member_named particle.members name) (element_named particles name)

-- the kind of the attribute, and of the element, of a name inside an element of a declaration: that of the first of the name
abbrev pub attribute_in : Option PlainKind → ℕ → Option ℕ
attribute_in None name = None
attribute_in (Some (valued datatype)) name = None
attribute_in (Some (containing attributes particles)) name = attribute_named attributes name

abbrev pub element_in : Option PlainKind → ℕ → Option ℕ
element_in None name = None
element_in (Some (valued datatype)) name = None
element_in (Some (containing attributes particles)) name = element_named particles name

abbrev pub attribute_of : PlainSchema → ℕ → ℕ → Option ℕ
attribute_of s kind name = attribute_in (slice_get s.kinds kind) name

abbrev pub element_of : PlainSchema → ℕ → ℕ → Option ℕ
element_of s kind name = element_in (slice_get s.kinds kind) name

-- ---- the parts of a text

-- the character behind the name of an element of a declaration
abbrev pub mark_of : Option PlainKind → ℕ
mark_of None = 123
mark_of (Some (valued datatype)) = 61
mark_of (Some (containing attributes particles)) = 123

abbrev pub mark : PlainSchema → ℕ → ℕ
mark s kind = mark_of (slice_get s.kinds kind)

-- what stands before an attribute or an element: one space, but before the first
abbrev pub gap : Filling → List ℕ
gap fills.Nothing = []
gap fills.Attributes = codes " "
gap fills.Elements = codes " "
gap fills.Value = codes " "

-- attributes stand before elements
abbrev pub IsBeforeElements : Filling → Type 0
IsBeforeElements fills.Nothing = Unit {0}
IsBeforeElements fills.Attributes = Unit {0}
IsBeforeElements fills.Elements = ⊥
IsBeforeElements fills.Value = ⊥

-- a text in the form of a value of a simple kind
abbrev pub IsValueOf : PlainSchema → ℕ → Value → List ℕ → Type 0
IsValueOf s kind value text =
    (datatype : Datatype) × (simple_at s.kinds kind ≡ Some datatype) × IsFormed s kind datatype value text

-- the start of an element with its mark, and an attribute
abbrev pub IsStartText : PlainSchema → ℕ → ℕ → List ℕ → Type 0
IsStartText s name kind text = (word : List ℕ) × IsName s name word × (text ≡ word ++ mark s kind ∷ [])

abbrev pub IsAttributeText : PlainSchema → ℕ → ℕ → Value → List ℕ → Type 0
IsAttributeText s name kind value text =
    (word : List ℕ) × (said : List ℕ) × IsName s name word × IsValueOf s kind value said
    × (text ≡ codes "@" ++ word ++ codes "=" ++ said)

-- what ends an element of a declaration: a value alone nothing, else a brace
abbrev pub IsEndText : Option PlainKind → Filling → List ℕ → Type 0
IsEndText None filling text = ⊥
IsEndText (Some (valued datatype)) filling text = (filling ≡ fills.Value) × (text ≡ [])
IsEndText (Some (containing attributes particles)) filling text = text ≡ codes "}"

-- ---- event by event

-- before the text; behind the front of the root, which has this name and kind; inside the elements that have started and not ended, the innermost
-- one first: behind the root where there is none
pub data Standing : Type 0 where
  Before : Standing
  AtRoot : ℕ → ℕ → Standing
  Within : List OpenElement → Standing

abbrev pub element : ℕ → Filling → OpenElement
element kind filling = record { kind = kind; filling = filling }

-- the number of a document is told by the front of its root
abbrev pub OpensDocument : PlainSchema → ℕ → List ℕ → Standing → Type 0
OpensDocument s number added after =
    (name : ℕ) × (kind : ℕ)
    × IsRoot s.roots s.root_bits number (Kind name kind)
    × IsStartText s name kind added
    × (after ≡ AtRoot name kind)

abbrev pub OpensRoot : ℕ → ℕ → ℕ → List ℕ → Standing → Type 0
OpensRoot root kind name added after = (name ≡ root) × (added ≡ []) × (after ≡ Within (element kind fills.Nothing ∷ []))

abbrev pub OpensElement : PlainSchema → OpenElement → List OpenElement → ℕ → List ℕ → Standing → Type 0
OpensElement s top above name added after =
    (kind : ℕ) × (text : List ℕ)
    × (element_of s top.kind name ≡ Some kind)
    × IsStartText s name kind text
    × (added ≡ gap top.filling ++ text)
    × (after ≡ Within (element kind fills.Nothing ∷ element top.kind fills.Elements ∷ above))

abbrev pub TakesAttribute : PlainSchema → OpenElement → List OpenElement → ℕ → Value → List ℕ → Standing → Type 0
TakesAttribute s top above name value added after =
    (kind : ℕ) × (text : List ℕ)
    × IsBeforeElements top.filling
    × (attribute_of s top.kind name ≡ Some kind)
    × IsAttributeText s name kind value text
    × (added ≡ gap top.filling ++ text)
    × (after ≡ Within (element top.kind fills.Attributes ∷ above))

abbrev pub TakesContent : PlainSchema → OpenElement → List OpenElement → Value → List ℕ → Standing → Type 0
TakesContent s top above value added after =
    (top.filling ≡ fills.Nothing)
    × IsValueOf s top.kind value added
    × (after ≡ Within (element top.kind fills.Value ∷ above))

abbrev pub ClosesElement : PlainSchema → OpenElement → List OpenElement → List ℕ → Standing → Type 0
ClosesElement s top above added after =
    IsEndText (slice_get s.kinds top.kind) top.filling added × (after ≡ Within above)

-- an event, what it adds to the text, and what comes behind it
abbrev pub Adds : PlainSchema → Standing → Event → List ℕ → Standing → Type 0
Adds s Before (Document number) added after = OpensDocument s number added after
Adds s (AtRoot root kind) (Start name) added after = OpensRoot root kind name added after
Adds s (Within (top ∷ above)) (Start name) added after = OpensElement s top above name added after
Adds s (Within (top ∷ above)) (Attribute name value) added after = TakesAttribute s top above name value added after
Adds s (Within (top ∷ above)) (Content value) added after = TakesContent s top above value added after
Adds s (Within (top ∷ above)) EndElement added after = ClosesElement s top above added after
Adds s _ _ added after = ⊥

-- the events so far, the newest first, with their text, and where they lead
abbrev pub Says : PlainSchema → List Event → List ℕ → Standing → Type 0
Says s [] text standing = (text ≡ []) × (standing ≡ Before)
Says s (event ∷ events) text standing =
    (before : Standing) × (front : List ℕ) × (added : List ℕ)
    × Says s events front before
    × Adds s before event added standing
    × (text ≡ front ++ added)

-- ---- the texts of the dialect

-- a text of the dialect says these events, the newest first
abbrev pub IsDialectText : PlainSchema → List Event → List ℕ → Type 0
IsDialectText s events text = Says s events text (Within [])

abbrev pub IsOfDialect : PlainSchema → List ℕ → Type 0
IsOfDialect s text = (events : List Event) × IsDialectText s events text

-- no text of the dialect: its longest front that begins one has so many characters
abbrev pub IsFault : PlainSchema → List ℕ → ℕ → Type 0
IsFault s text place =
    (IsOfDialect s text → ⊥) × ((front : List ℕ) × IsLongest (IsOfDialect s) text front × (length front ≡ place))
