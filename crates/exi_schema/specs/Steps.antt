-- Own: what a step and a root say is the schema's.
use Rattle.std.specs.Prelude.{◌≡◌, ℕ, suc, true, false, IsSome, ◌<◌, List, [], length, slice_get, Option, Some, None}
use Rattle.exi_schema.specs.declared.tables.Datatype.{Datatype}
use Rattle.exi_schema.specs.Plain.{PlainKind, valued, containing}
use Rattle.exi_schema.specs.declared.tables.RootOf.{RootOf}
use Rattle.exi_schema.specs.declared.places.Root.{Root}
use Rattle.exi_schema.specs.declared.places.Root.TheVariants.{Kind, Unknown, NoSuch}
use Rattle.exi_schema.specs.declared.places.Step.{Step}
use Rattle.exi_schema.specs.declared.places.Step.TheVariants.{Attribute, Element, End, Characters}
use Rattle.exi_schema.specs.declared.places.Sought.{Sought}
use Rattle.exi_schema.specs.declared.places.Sought.TheVariants as sought
use Rattle.exi_schema.specs.declared.tables.MemberStanding.TheVariants.{Taken}
use Rattle.exi_schema.specs.Offers.{IsPlace}
use Rattle.exi_schema.specs.Schemas.{is_within}

-- the datatype of a simple kind
abbrev pub datatype_of : Option PlainKind → Option Datatype
datatype_of (Some (valued datatype)) = Some datatype
datatype_of (Some (containing attributes particles)) = None
datatype_of None = None

abbrev pub simple_at : List PlainKind → ℕ → Option Datatype
simple_at kinds kind = datatype_of (slice_get kinds kind)

-- of a step at a place of the kind `here`: its name and kind are the schema's, and the next place too. An attribute and characters
-- have a datatype. The elements inside an element stand less deep than those of the kind it stands in
abbrev pub IsStep : List PlainKind → ℕ → ℕ → Step → Type 0
IsStep kinds names here (Attribute name kind next) =
    (name < names) × (kind < length kinds) × IsSome (simple_at kinds kind) × IsPlace kinds next
IsStep kinds names here (Element name kind next standing past_limit) =
    (name < names) × (kind < length kinds) × IsPlace kinds next
    × ((depth : ℕ) → is_within kinds (suc depth) here ≡ true → is_within kinds depth kind ≡ true)
IsStep kinds names here End = Unit {0}
IsStep kinds names here (Characters next) = IsSome (simple_at kinds here) × IsPlace kinds next

-- a step is what is looked for, and may be taken
abbrev pub IsSought : Step → Sought → Type 0
IsSought (Attribute name kind next) (sought.Attribute n) = n ≡ name
IsSought (Element name kind next standing past_limit) (sought.Element n) = (n ≡ name) × (standing ≡ Taken) × (past_limit ≡ false)
IsSought End sought.End = Unit {0}
IsSought (Characters next) sought.Characters = Unit {0}
IsSought _ _ = ⊥

-- a root is the schema's, and no element of its document stands deeper than 16
abbrev pub IsRootOf : List PlainKind → ℕ → Root → Type 0
IsRootOf kinds names (Kind name kind) = (name < names) × (kind < length kinds) × (is_within kinds 16 kind ≡ true)
IsRootOf kinds names Unknown = Unit {0}
IsRootOf kinds names NoSuch = Unit {0}

-- W3C EXI 1.0 (Second Edition) 8.4.1, Schema-informed Document Grammar: what a document number names
abbrev pub IsRoot : List RootOf → ℕ → ℕ → Root → Type 0
IsRoot roots bits number (Kind name kind) = (i : ℕ) × (slice_get roots i ≡ Some (record { number = number; name = name; kind = kind }))
IsRoot roots bits number Unknown =
    ((i : ℕ) (root : RootOf) → slice_get roots i ≡ Some root → root.number ≡ number → ⊥) × (((bits ≡ 2) × (number ≡ 3)) → ⊥)
IsRoot roots bits number NoSuch = (bits ≡ 2) × (number ≡ 3)

-- the texts of the values of a kind
abbrev pub texts_of : Option (List (List ℕ)) → List (List ℕ)
texts_of None = []
texts_of (Some texts) = texts

abbrev pub texts_at : List (List (List ℕ)) → ℕ → List (List ℕ)
texts_at values kind = texts_of (slice_get values kind)
