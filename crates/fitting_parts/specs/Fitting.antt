-- Own: parts that hold what is declared. W3C XML Schema Part 1 (Second Edition) 3.4.4 and 3.9.4, part by part.
use Rattle.std.specs.Prelude.{◌≡◌, ℕ, nat_le, ◌&&◌, Bool, true, false, List, [], ◌∷◌, length, Some, None, slice_get}
use Rattle.std.specs.List.{AllByRecursion}
use Rattle.exi_schema.specs.declared.tables.AttributeOf.{AttributeOf}
use Rattle.exi_schema.specs.declared.tables.Member.{Member}
use Rattle.exi_schema.specs.Plain.{PlainKind, containing, PlainParticle}
use Rattle.exi_documents.specs.Values.{IsValue}
use Rattle.kind_laws.specs.Kinds.{HasValue, HoldsAttributes, AreDivided, AreElements}
use Rattle.message_parts.specs.Contents.{Inside, Of, Holding, Given, given, perhaps_given, Part, one, perhaps, each, perhaps_one}
use Rattle.message_parts.specs.Particles.{alternatives, kind_among, has_room_for}

-- ---- what an element of a kind holds: a value, or attributes and elements divided among its particles

abbrev pub HoldsTrees : List PlainKind → ℕ → Inside → Type 0
HoldsTrees kinds kind (Of value) = HasValue IsValue kinds kind value
HoldsTrees kinds kind (Holding attributes children) =
    (declared : List AttributeOf) × (particles : List PlainParticle) × (members : List Member)
    × (slice_get kinds kind ≡ Some (containing declared particles))
    × HoldsAttributes IsValue kinds declared attributes
    × AreDivided particles members
    × AreElements IsValue kinds members children

-- ---- attributes

abbrev pub FitsGiven : List PlainKind → List AttributeOf → List Given → Type 0
FitsGiven kinds [] [] = Unit {0}
FitsGiven kinds [] (g ∷ more) = ⊥
FitsGiven kinds (a ∷ attributes) [] = ⊥
FitsGiven kinds (a ∷ attributes) (given name value ∷ more) =
    (name ≡ a.name) × HasValue IsValue kinds a.kind value × FitsGiven kinds attributes more
FitsGiven kinds (a ∷ attributes) (perhaps_given name None ∷ more) = (a.required ≡ false) × FitsGiven kinds attributes more
FitsGiven kinds (a ∷ attributes) (perhaps_given name (Some value) ∷ more) =
    (name ≡ a.name) × HasValue IsValue kinds a.kind value × FitsGiven kinds attributes more

-- ---- particles

-- a particle takes so many copies
abbrev pub takes_copies : PlainParticle → ℕ → Bool
takes_copies particle n = nat_le particle.least n && (has_room_for n particle.most && nat_le n particle.profile)

-- an element of this name is one of the particle's, and holds what its kind says
abbrev pub FitsElement : List PlainKind → PlainParticle → ℕ → Inside → Type 0
FitsElement kinds particle name inside =
    (kind : ℕ) × (kind_among (alternatives particle.members) name ≡ Some kind) × HoldsTrees kinds kind inside

abbrev pub FitsPart : List PlainKind → PlainParticle → Part → Type 0
FitsPart kinds particle (one name inside) = FitsElement kinds particle name inside × (takes_copies particle 1 ≡ true)
FitsPart kinds particle (perhaps name None) = takes_copies particle 0 ≡ true
FitsPart kinds particle (perhaps name (Some inside)) = FitsElement kinds particle name inside × (takes_copies particle 1 ≡ true)
FitsPart kinds particle (each name insides) =
    AllByRecursion (FitsElement kinds particle name) insides × (takes_copies particle (length insides) ≡ true)
FitsPart kinds particle (perhaps_one None) = takes_copies particle 0 ≡ true
FitsPart kinds particle (perhaps_one (Some chosen)) = FitsElement kinds particle chosen.0 chosen.1 × (takes_copies particle 1 ≡ true)

-- a part for each particle; those behind the last part, as what is left out of a profile, take none
abbrev pub FitsParts : List PlainKind → List PlainParticle → List Part → Type 0
FitsParts kinds [] [] = Unit {0}
FitsParts kinds [] (p ∷ parts) = ⊥
FitsParts kinds (particle ∷ particles) [] = (takes_copies particle 0 ≡ true) × FitsParts kinds particles []
FitsParts kinds (particle ∷ particles) (p ∷ parts) = FitsPart kinds particle p × FitsParts kinds particles parts
