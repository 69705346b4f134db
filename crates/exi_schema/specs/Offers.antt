-- W3C EXI 1.0 (Second Edition) 8.5.4, Schema-informed Element and Type Grammars, and 6.2, Event Codes: what may stand at a
-- place of an element, in the order of the event codes.
use Rattle.std.specs.Prelude.{◌≡◌, ℕ, ◌+◌, ◌^◌, ◌<◌, ◌≤◌, ◌==◌, nat_lt, not, Bool, true, if◌then◌else◌, List, [], ◌∷◌, ◌++◌, length, drop, map, Option, Some, None, slice_get}
use Rattle.std.specs.List.{list_any}
use Rattle.exi_schema.specs.declared.tables.AttributeOf.{AttributeOf}
use Rattle.exi_schema.specs.Plain.{PlainKind, valued, containing, PlainParticle}
use Rattle.exi_schema.specs.declared.tables.Member.{Member}
use Rattle.exi_schema.specs.declared.places.Place.{Place}
use Rattle.exi_schema.specs.declared.places.Step.{Step}
use Rattle.exi_schema.specs.declared.places.Step.TheVariants.{Attribute, Element, End, Characters}

-- of attributes in order of name those up to the first that has to be there
abbrev pub through_required : List AttributeOf → List AttributeOf
through_required [] = []
through_required (attribute ∷ attributes) = attribute ∷ (if attribute.required then [] else through_required attributes)

-- an attribute, which has the number `at` in its kind
abbrev pub attribute_step : Place → ℕ → AttributeOf → Step
attribute_step here at attribute =
    Attribute attribute.name attribute.kind (record { kind = here.kind; particle = here.particle; copies = here.copies; attributes = at + 1 })

-- each of these attributes, the first of which has the number `at`
abbrev pub attribute_steps : Place → ℕ → List AttributeOf → List Step
attribute_steps here at [] = []
attribute_steps here at (attribute ∷ attributes) = attribute_step here at attribute ∷ attribute_steps here (at + 1) attributes

-- a number of copies that leaves room for one more
abbrev pub leaves_room : Option ℕ → ℕ → Bool
leaves_room None copies = true
leaves_room (Some most) copies = nat_lt copies most

-- the place behind copy `copies` of the particle `at`, in a kind of so many attributes
abbrev pub behind_copy : ℕ → ℕ → ℕ → ℕ → Option ℕ → Place
behind_copy kind attributes at copies most =
    if leaves_room most (copies + 1)
    then record { kind = kind; particle = at; copies = copies + 1; attributes = attributes }
    else record { kind = kind; particle = at + 1; copies = 0; attributes = attributes }

-- a member as copy `copies` of the particle `at`, which passes the profile limit or not (own)
abbrev pub element_step : Place → ℕ → ℕ → ℕ → PlainParticle → Member → Step
element_step here attributes at copies particle member =
    Element member.name member.kind
    (if nat_lt copies particle.profile then behind_copy here.kind attributes at copies particle.most else here)
    member.standing (not (nat_lt copies particle.profile))

-- of the particles from `at` on, `copies` of the first being passed: the members of the next copy and, where the minimum is
-- met, what follows the particle. Behind the last is the end
abbrev pub element_steps : Place → ℕ → ℕ → ℕ → List PlainParticle → List Step
element_steps here attributes at copies [] = End ∷ []
element_steps here attributes at copies (particle ∷ particles) =
    map (element_step here attributes at copies particle) particle.members
    ++ (if nat_lt copies particle.least then [] else element_steps here attributes (at + 1) 0 particles)

-- in a simple kind: its characters, and behind them the end
abbrev pub simple_step : Place → Step
simple_step here =
    if here.particle == 0 then Characters (record { kind = here.kind; particle = 1; copies = 0; attributes = 0 }) else End

-- in a complex kind: attributes and, where none of those left has to be there, elements and the end
abbrev pub complex_steps : Place → List AttributeOf → List PlainParticle → List Step
complex_steps here attributes particles =
    attribute_steps here here.attributes (through_required (drop here.attributes attributes))
    ++ (if list_any (λ attribute. attribute.required) (drop here.attributes attributes) then []
    else element_steps here (length attributes) here.particle here.copies (drop here.particle particles))

-- what is offered at a place of a kind, in order of event code
abbrev pub offers_in : Place → PlainKind → List Step
offers_in here (valued datatype) = simple_step here ∷ []
offers_in here (containing attributes particles) = complex_steps here attributes particles

abbrev pub offers_of : Place → Option PlainKind → List Step
offers_of here None = []
offers_of here (Some declaration) = offers_in here declaration

abbrev pub offers : List PlainKind → Place → List Step
offers kinds here = offers_of here (slice_get kinds here.kind)

-- behind the n codes that are offered stands the escape to what isn't declared (8.5.4.4): a code has the least number of bits
-- that tells n + 1 codes apart
pub record IsWidth (n width : ℕ) : Type 0 where
  pub enough : n + 1 ≤ 2 ^ width
  pub least : (w : ℕ) → n + 1 ≤ 2 ^ w → width ≤ w

-- a place of a schema: so many copies of the first of these particles may be passed
abbrev pub FitsCopies : ℕ → ℕ → Option ℕ → Type 0
FitsCopies copies profile None = copies ≤ profile
FitsCopies copies profile (Some most) = copies < most

abbrev pub FitsParticles : ℕ → List PlainParticle → Type 0
FitsParticles copies [] = copies ≡ 0
FitsParticles copies (particle ∷ particles) = FitsCopies copies particle.profile particle.most

abbrev pub IsPlaceAmong : Place → List AttributeOf → List PlainParticle → Type 0
IsPlaceAmong place attributes particles =
    (place.attributes ≤ length attributes)
    × (place.particle ≤ length particles)
    × FitsParticles place.copies (drop place.particle particles)

abbrev pub IsPlaceIn : Place → PlainKind → Type 0
IsPlaceIn place (valued datatype) = (place.attributes ≡ 0) × (place.particle ≤ 1) × (place.copies ≡ 0)
IsPlaceIn place (containing attributes particles) = IsPlaceAmong place attributes particles

abbrev pub IsPlaceOf : Place → Option PlainKind → Type 0
IsPlaceOf place None = ⊥
IsPlaceOf place (Some declaration) = IsPlaceIn place declaration

abbrev pub IsPlace : List PlainKind → Place → Type 0
IsPlace kinds place = IsPlaceOf place (slice_get kinds place.kind)
