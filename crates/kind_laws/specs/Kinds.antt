-- W3C XML Schema Part 1 (Second Edition) 3.4.4, Element Locally Valid (Complex Type), and 3.9.4, Element Sequence Locally Valid
-- (Particle): what an element of a kind holds.
use Rattle.std.specs.Prelude.{◌≡◌, ℕ, ◌≤◌, ◌⊎◌, false, List, [], ◌∷◌, ◌++◌, length, Option, Some, None, slice_get}
use Rattle.std.specs.List.{AllByRecursion}
use Rattle.exi_schema.specs.declared.tables.AttributeOf.{AttributeOf}
use Rattle.exi_schema.specs.declared.tables.Datatype.{Datatype}
use Rattle.exi_schema.specs.declared.tables.Member.{Member}
use Rattle.exi_schema.specs.declared.tables.MemberStanding.TheVariants.{Taken}
use Rattle.exi_schema.specs.declared.tables.RootOf.{RootOf}
use Rattle.exi_schema.specs.Plain.{PlainKind, containing, PlainParticle}
use Rattle.exi_schema.specs.Schemas.{PlainSchema}
use Rattle.exi_schema.specs.Steps.{simple_at}
use Rattle.exi_documents.specs.Trees.{Value, Trees, none, simple, complex, Tree, alone}
use Rattle.exi_documents.specs.Values.{IsValue}

-- ---- particles

-- a member of a particle that may stand where the particle stands
pub record IsMemberOf (particle : PlainParticle) (member : Member) : Type 0 where
  pub index : ℕ
  pub found : slice_get particle.members index ≡ Some member
  pub taken : member.standing ≡ Taken

-- no more than the maximum, if there is one
abbrev pub IsAtMost : Option ℕ → ℕ → Type 0
IsAtMost None n = Unit {0}
IsAtMost (Some most) n = n ≤ most

-- what stands for a particle: from its minimum to its maximum of its members, each as often as one likes and in any order, and no more
-- than are accepted (own)
pub record StandsFor (particle : PlainParticle) (members : List Member) : Type 0 where
  pub own : AllByRecursion (IsMemberOf particle) members
  pub least : particle.least ≤ length members
  pub most : IsAtMost particle.most (length members)
  pub profile : length members ≤ particle.profile

-- members divided among particles, in order
abbrev pub AreDivided : List PlainParticle → List Member → Type 0
AreDivided [] members = members ≡ []
AreDivided (particle ∷ particles) members =
    (own : List Member) × (others : List Member) × StandsFor particle own × AreDivided particles others × (members ≡ own ++ others)

-- ---- attributes

-- of the attributes of a kind, which are in order of name, those of an element: each that has to be there, and any others
abbrev pub AreChosen : List AttributeOf → List AttributeOf → Type 0
AreChosen [] chosen = chosen ≡ []
AreChosen (attribute ∷ attributes) chosen =
    ((attribute.required ≡ false) × AreChosen attributes chosen)
    ⊎ ((others : List AttributeOf) × (chosen ≡ attribute ∷ others) × AreChosen attributes others)

-- ---- values

-- the values of a datatype
abbrev pub Values : Type 1
Values = Datatype → Value → Type 0

-- a value of a simple kind
abbrev pub HasValue : Values → List PlainKind → ℕ → Value → Type 0
HasValue V kinds kind value = (datatype : Datatype) × (simple_at kinds kind ≡ Some datatype) × V datatype value

-- one for each of these attributes, under its name
abbrev pub HaveValues : Values → List PlainKind → List AttributeOf → List (ℕ × Value) → Type 0
HaveValues V kinds [] values = values ≡ []
HaveValues V kinds (attribute ∷ attributes) [] = ⊥
HaveValues V kinds (attribute ∷ attributes) (value ∷ values) =
    (value.0 ≡ attribute.name) × HasValue V kinds attribute.kind value.1 × HaveValues V kinds attributes values

-- the attributes of an element of a kind
pub record HoldsAttributes (V : Values) (kinds : List PlainKind) (declared : List AttributeOf) (values : List (ℕ × Value)) : Type 0 where
  pub chosen : List AttributeOf
  pub are_chosen : AreChosen declared chosen
  pub have_values : HaveValues V kinds chosen values

-- ---- elements

-- elements one behind the other, one for each of these members, under its name: the value of a simple kind, or the attributes of a
-- complex one and elements divided among its particles
abbrev pub AreElements : Values → List PlainKind → List Member → Trees → Type 0
AreElements V kinds members none = members ≡ []
AreElements V kinds members (simple name value more) =
    (member : Member) × (others : List Member) × (members ≡ member ∷ others) × (name ≡ member.name)
    × HasValue V kinds member.kind value
    × AreElements V kinds others more
AreElements V kinds members (complex name attributes children more) =
    (member : Member) × (others : List Member) × (members ≡ member ∷ others) × (name ≡ member.name)
    × (declared : List AttributeOf) × (particles : List PlainParticle) × (inside : List Member)
    × (slice_get kinds member.kind ≡ Some (containing declared particles))
    × HoldsAttributes V kinds declared attributes
    × AreDivided particles inside
    × AreElements V kinds inside children
    × AreElements V kinds others more

-- ---- documents

-- a root as the one member that stands for a document
abbrev pub member_of : RootOf → Member
member_of root = record { name = root.name; kind = root.kind; standing = Taken }

-- a tree holds what the schema says of its root, and each value is one of its datatype
pub record IsHeld (V : Values) (s : PlainSchema) (tree : Tree) : Type 0 where
  pub root : RootOf
  pub index : ℕ
  pub found : slice_get s.roots index ≡ Some root
  pub elements : AreElements V s.kinds (member_of root ∷ []) (alone tree)

abbrev pub FitsSchema : PlainSchema → Tree → Type 0
FitsSchema s tree = IsHeld IsValue s tree
