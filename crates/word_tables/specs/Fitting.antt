-- Own: tables and the declarations of a schema: which values can be written, that a table fits what is declared, and how many bits are
-- written at most. The last two compute on a table.
use Rattle.std.specs.Prelude.{ℕ, ◌+◌, ◌*◌, ◌≤◌, ◌&&◌, max, ◌⊎◌, ◌==◌, if◌then◌else◌, not, Bool, false, List, [], ◌∷◌, length, IfSome, Option, Some, None, slice_get}
use Rattle.std.proofs.Common.{inl, inr}
use Rattle.std.specs.List.{list_all, AllByRecursion}
use Rattle.exi_schema.specs.declared.tables.AttributeOf.{AttributeOf}
use Rattle.exi_schema.specs.declared.tables.Datatype.{Datatype}
use Rattle.exi_schema.specs.declared.tables.Datatype.TheVariants.{Bool as BoolType, Named, Bounded, Unsigned, Signed, Binary, Text}
use Rattle.exi_schema.specs.Plain.{PlainKind, valued, containing, PlainParticle}
use Rattle.exi_schema.specs.Steps.{simple_at}
use Rattle.exi_documents.specs.Trees.{Value}
use Rattle.exi_documents.specs.Values.{IsValue}
use Rattle.tree_words.specs.Particles.{alternatives, kind_among}
use Rattle.fitting_parts.specs.Fitting.{takes_copies}
use Rattle.word_tables.specs.Tables.{value_of, Sort, inside, rows, attribute_rows, Table, simple, holding, attributed, meaning, nothing, once, perhaps, each, either, always, no_attributes, attribute_row}

-- ---- which values can be written: those of the declared datatypes

abbrev pub IsValueOf : Option Datatype → Value → Type 0
IsValueOf None value = ⊥
IsValueOf (Some datatype) value = IsValue datatype value

abbrev pub IfEither : {X Y : Type 0} → (X → Type 0) → (Y → Type 0) → X ⊎ Y → Type 0
IfEither P Q (inl x) = P x
IfEither P Q (inr y) = Q y

abbrev pub CanWrite : List PlainKind → {s : Sort} {X : Type 0} → Table s X → X → Type 0
CanWrite kinds (simple leaf kind) x = IsValueOf (simple_at kinds kind) (value_of leaf x)
CanWrite kinds (holding table) x = CanWrite kinds table x
CanWrite kinds (attributed given table) x = CanWrite kinds given x.0 × CanWrite kinds table x.1
CanWrite kinds (meaning of from table) y = CanWrite kinds table (from y)
CanWrite kinds nothing x = Unit {0}
CanWrite kinds (once name table others) x = CanWrite kinds table x.0 × CanWrite kinds others x.1
CanWrite kinds (perhaps name table others) x = IfSome x.0 (λ y. CanWrite kinds table y) × CanWrite kinds others x.1
CanWrite kinds (each name least most table others) x =
    (least ≤ length x.0) × (length x.0 ≤ most) × AllByRecursion (λ y. CanWrite kinds table y) x.0 × CanWrite kinds others x.1
CanWrite kinds (either name table other second others) x =
    IfEither (λ y. CanWrite kinds table y) (λ y. CanWrite kinds second y) x.0 × CanWrite kinds others x.1
CanWrite kinds (always name table value others) x = CanWrite kinds table value × CanWrite kinds others x
CanWrite kinds no_attributes x = Unit {0}
CanWrite kinds (attribute_row name leaf kind others) x = IsValueOf (simple_at kinds kind) (value_of leaf x.0) × CanWrite kinds others x.1

-- ---- a test: each row stands at a particle or an attribute of its name, and what has to be there has a row

-- what is declared: the kind of an element, or the particles or attributes from one on
abbrev pub Declared : Sort → Type 0
Declared inside = ℕ
Declared rows = List PlainParticle
Declared attribute_rows = List AttributeOf

abbrev pub none_required : List AttributeOf → Bool
none_required attributes = list_all (λ a. not a.required) attributes

abbrev pub fits_kind : Option PlainKind → (List AttributeOf → Bool) → (List PlainParticle → Bool) → Bool
fits_kind None given fits = false
fits_kind (Some (valued datatype)) given fits = false
fits_kind (Some (containing attributes particles)) given fits = given attributes && fits particles

-- of the next attribute of this name, its kind and the attributes behind it
abbrev pub fits_attribute : ℕ → ℕ → (List AttributeOf → Bool) → List AttributeOf → Bool
fits_attribute name kind others [] = false
fits_attribute name kind others (a ∷ attributes) =
    if a.name == name then a.kind == kind && others attributes else not a.required && fits_attribute name kind others attributes

-- of the next particle that has an element of this name, its kind and the particles behind it
abbrev pub fits_here : Option ℕ → Bool → (ℕ → Bool) → Bool → Bool
fits_here None absent fits later = absent && later
fits_here (Some kind) absent fits later = fits kind

abbrev pub fits_next : ℕ → (PlainParticle → Bool) → (ℕ → Bool) → (List PlainParticle → Bool) → List PlainParticle → Bool
fits_next name copies fits others [] = false
fits_next name copies fits others (particle ∷ particles) =
    fits_here (kind_among (alternatives particle.members) name) (takes_copies particle 0)
    (λ kind. copies particle && fits kind && others particles) (fits_next name copies fits others particles)

-- another element may stand at the same particle
abbrev pub fits_too : Option ℕ → (ℕ → Bool) → Bool
fits_too None fits = false
fits_too (Some kind) fits = fits kind

abbrev pub fits : List PlainKind → {s : Sort} {X : Type 0} → Table s X → Declared s → Bool
fits kinds (simple leaf own) kind = own == kind
fits kinds (holding table) kind = fits_kind (slice_get kinds kind) none_required (λ particles. fits kinds table particles)
fits kinds (attributed given table) kind =
    fits_kind (slice_get kinds kind) (λ attributes. fits kinds given attributes) (λ particles. fits kinds table particles)
fits kinds (meaning of from table) declared = fits kinds table declared
fits kinds nothing particles = list_all (λ particle. takes_copies particle 0) particles
fits kinds (once name table others) particles =
    fits_next name (λ particle. takes_copies particle 1) (λ kind. fits kinds table kind) (λ more. fits kinds others more) particles
fits kinds (perhaps name table others) particles =
    fits_next name (λ particle. takes_copies particle 0 && takes_copies particle 1) (λ kind. fits kinds table kind)
    (λ more. fits kinds others more) particles
fits kinds (each name least most table others) particles =
    fits_next name (λ particle. takes_copies particle least && takes_copies particle most) (λ kind. fits kinds table kind)
    (λ more. fits kinds others more) particles
fits kinds (either name table other second others) particles =
    fits_next name (λ particle. takes_copies particle 1 && fits_too (kind_among (alternatives particle.members) other) (λ kind. fits kinds second kind))
    (λ kind. fits kinds table kind) (λ more. fits kinds others more) particles
fits kinds (always name table value others) particles =
    fits_next name (λ particle. takes_copies particle 1) (λ kind. fits kinds table kind) (λ more. fits kinds others more) particles
fits kinds no_attributes attributes = none_required attributes
fits kinds (attribute_row name leaf own others) attributes = fits_attribute name own (λ more. fits kinds others more) attributes

-- ---- how many bits are written at most, where no code has more than `width`

abbrev pub datatype_bits : ℕ → Datatype → ℕ
datatype_bits width BoolType = 1
datatype_bits width (Named count) = width
datatype_bits width (Bounded least count) = 81
datatype_bits width (Unsigned most) = 81
datatype_bits width (Signed least most) = 81
datatype_bits width (Binary most) = 24 + 8 * most
datatype_bits width (Text most) = 24 + 24 * most

abbrev pub value_bits : ℕ → Option Datatype → ℕ
value_bits width None = 0
value_bits width (Some datatype) = datatype_bits width datatype

-- an element has codes in front of its value and behind it
abbrev pub simple_bits : ℕ → Option Datatype → ℕ
simple_bits width None = 0
simple_bits width (Some datatype) = 2 + datatype_bits width datatype

abbrev pub bits : ℕ → List PlainKind → {s : Sort} {X : Type 0} → Table s X → ℕ
bits width kinds (simple leaf kind) = simple_bits width (simple_at kinds kind)
bits width kinds (holding table) = bits width kinds table
bits width kinds (attributed given table) = bits width kinds given + bits width kinds table
bits width kinds (meaning of from table) = bits width kinds table
bits width kinds nothing = width
bits width kinds (once name table others) = (width + bits width kinds table) + bits width kinds others
bits width kinds (perhaps name table others) = (width + bits width kinds table) + bits width kinds others
bits width kinds (each name least most table others) = most * (width + bits width kinds table) + bits width kinds others
bits width kinds (either name table other second others) =
    (width + max (bits width kinds table) (bits width kinds second)) + bits width kinds others
bits width kinds (always name table value others) = (width + bits width kinds table) + bits width kinds others
bits width kinds no_attributes = 0
bits width kinds (attribute_row name leaf kind others) = (width + value_bits width (simple_at kinds kind)) + bits width kinds others
