-- What is found in the tables of a schema is what the schema tells.
use Rattle.std.proofs.Common.{◌≡◌, ℕ, ◌+◌, ◌-◌, ◌<◌, ◌≤◌, true, if◌then◌else◌, List, length, drop, get_or, Some, ap, subst, ◌∙◌, arith}
use Rattle.std.proofs.lemmas.Bool.{ltb-true}
use Rattle.std.proofs.lemmas.List.{length-map, drop-map}
use Rattle.std.proofs.lemmas.Option.{slice_get-get_or}
use Rattle.std.proofs.Math.ListN.{get_or-map}
use Rattle.std.specs.Prelude.{slice_get, All}
use Rattle.std.specs.List.{list_any, list_all}
use Rattle.exi_schema.specs.declared.places.Place.{Place}
use Rattle.exi_schema.specs.declared.tables.AttributeOf.{AttributeOf}
use Rattle.exi_schema.specs.declared.tables.Declaration.{Declaration}
use Rattle.exi_schema.specs.declared.tables.Member.{Member}
use Rattle.exi_schema.specs.declared.tables.Particle.{Particle}
use Rattle.exi_schema.specs.Counts.{element_total}
use Rattle.exi_schema.specs.Offers.{through_required, complex_steps, element_step, element_steps, IsPlace, IsPlaceIn}
use Rattle.exi_schema.specs.Plain.{PlainParticle, plain_particle, plain_particles, plain_kind, plain_kinds}
use Rattle.exi_schema.specs.Schemas.{is_particle, is_most, can_be_there}
use Rattle.exi_schema.proofs.Conditions.{and-l, and-r, all_get, found_kind}
use Rattle.exi_schema.proofs.Walks.{found_at, passed_at, length_complex}

-- the kind of a place
pub found_declared : (kinds : List Declaration) (place : Place) (d declaration : Declaration) → IsPlace (plain_kinds kinds) place → get_or kinds place.kind d ≡ declaration →
    (slice_get (plain_kinds kinds) place.kind ≡ Some (plain_kind declaration)) × IsPlaceIn place (plain_kind declaration)
found_declared kinds place d declaration at is =
    found_kind (plain_kinds kinds) place (plain_kind d) (plain_kind declaration) at (get_or-map plain_kind kinds place.kind d ∙ ap plain_kind is)

within_plain : (particles : List Particle) (at : ℕ) → at < length particles → at < length (plain_particles particles)
within_plain particles at within = let e : length (plain_particles particles) ≡ length particles = length-map particles plain_particle in omega (arith, e, within)

-- an element of the particle at hand
pub found_in : (here : Place) (attributes at copies left : ℕ) (particles : List Particle) (d : Particle) (e : Member) → at < length particles →
    left < length (get_or particles at d).members.now →
    Some (element_step here attributes at copies (plain_particle (get_or particles at d)) (get_or (get_or particles at d).members.now left e))
    ≡ slice_get (element_steps here attributes at copies (drop at (plain_particles particles))) left
found_in here attributes at copies left particles d e within =
    let P : PlainParticle → Type 0 = λ x. left < length x.members → Some (element_step here attributes at copies x (get_or x.members left e)) ≡ slice_get (element_steps here attributes at copies (drop at (plain_particles particles))) left in
    subst P (get_or-map plain_particle particles at d)
    (found_at here attributes at copies left (plain_particles particles) (plain_particle d) e (within_plain particles at within))

-- a particle that is passed over
pub passed_in : (here : Place) (attributes at copies left : ℕ) (particles : List Particle) (d : Particle) → at < length particles →
    length (get_or particles at d).members.now ≤ left → left < element_total copies (drop at (plain_particles particles)) →
    (left - length (get_or particles at d).members.now < element_total 0 (drop (at + 1) (plain_particles particles)))
    × (slice_get (element_steps here attributes (at + 1) 0 (drop (at + 1) (plain_particles particles))) (left - length (get_or particles at d).members.now)
    ≡ slice_get (element_steps here attributes at copies (drop at (plain_particles particles))) left)
passed_in here attributes at copies left particles d within =
    let P : PlainParticle → Type 0 = λ x. length x.members ≤ left → left < element_total copies (drop at (plain_particles particles)) →
    (left - length x.members < element_total 0 (drop (at + 1) (plain_particles particles)))
    × (slice_get (element_steps here attributes (at + 1) 0 (drop (at + 1) (plain_particles particles))) (left - length x.members)
    ≡ slice_get (element_steps here attributes at copies (drop at (plain_particles particles))) left) in
    subst P (get_or-map plain_particle particles at d)
    (passed_at here attributes at copies left (plain_particles particles) (plain_particle d) (within_plain particles at within))

-- how many steps there are at a place of a complex kind
pub length_in : (place : Place) (attributes : List AttributeOf) (particles : List Particle) →
    length (complex_steps place attributes (plain_particles particles)) ≡ length (through_required (drop place.attributes attributes))
    + (if list_any (λ attribute. attribute.required) (drop place.attributes attributes) then 0 else element_total place.copies (plain_particles (drop place.particle particles)))
length_in place attributes particles =
    let P : List PlainParticle → Type 0 = λ left. length (complex_steps place attributes (plain_particles particles)) ≡ length (through_required (drop place.attributes attributes))
    + (if list_any (λ attribute. attribute.required) (drop place.attributes attributes) then 0 else element_total place.copies left) in
    subst P (drop-map plain_particle place.particle particles) (length_complex place attributes (plain_particles particles))

pub profiles_fit : (names kinds : ℕ) (particles : List Particle) → list_all (is_particle names kinds) (plain_particles particles) ≡ true →
    All (λ particle. particle.profile < 65536) particles
profiles_fit names kinds particles all = λ k d less.
    let it : PlainParticle = get_or (plain_particles particles) k (plain_particle d) in
    let one : is_particle names kinds it ≡ true =
    all_get (is_particle names kinds) (plain_particles particles) k it all (slice_get-get_or (plain_particles particles) k (plain_particle d) (within_plain particles k less)) in
    let low : it.profile < 65536 = ltb-true _ 65536 (and-r (is_most it.least it.most) _ (and-l _ (can_be_there it) (and-l _ _ one))) in
    subst (λ (x : PlainParticle). x.profile < 65536) (get_or-map plain_particle particles k d) low
