-- The places of a declaration are those that the counts tell, and each count fits 16 bits.
use Rattle.std.proofs.Common.{◌≡◌, ℕ, ◌<◌, ◌≤◌, true, ◌&&◌, nat_lt, nat_le, List, [], ◌∷◌, length, drop, Option, Some, None, get_or, zero, suc, refl, ap, subst, sym, ◌∙◌, arith}
use Rattle.std.specs.Prelude.{slice_get}
use Rattle.std.specs.List.{list_all}
use Rattle.std.proofs.lemmas.Bool.{ltb-true}
use Rattle.exi_schema.specs.Schemas.{PlainSchema, is_most, is_particle, can_be_there}
use Rattle.exi_schema.specs.Plain.{PlainKind, valued, containing, PlainParticle, plain_particles, plain_kind, plain_kinds}
use Rattle.exi_schema.specs.declared.schema.Schema.{Schema}
use Rattle.exi_schema.specs.Told.{schema_of}
use Rattle.exi_schema.specs.declared.tables.Declaration.{Declaration}
use Rattle.exi_schema.specs.declared.tables.Declaration.TheVariants.{Complex}
use Rattle.exi_schema.specs.declared.tables.Particle.{Particle}
use Rattle.exi_schema.specs.declared.places.Place.{Place}
use Rattle.exi_schema.specs.Offers.{FitsCopies, FitsParticles, IsPlaceIn}
use Rattle.exi_schema.proofs.Conditions.{and-l, and-r, complex_in}
use Rattle.exi_schema.proofs.Fitting.{fit_drop}
use Rattle.exi_tables.specs.Counts.{attribute_places, particle_places, copies_within, copies_before, copy_places}

-- ---- the counts tell the places

pub record IsCounted (d : PlainKind) (place : Place) : Type 0 where
  pub attributes : place.attributes < attribute_places d
  pub particle : place.particle < particle_places d
  pub copies : place.copies < copy_places d place.particle

copies_counted : (copies profile : ℕ) (most : Option ℕ) → FitsCopies copies profile most → copies < copies_within profile most
copies_counted copies profile None fits = omega (arith, fits)
copies_counted copies profile (Some most) fits = fits

before_counted : (copies : ℕ) (particles : List PlainParticle) → FitsParticles copies particles → copies < copies_before particles
before_counted copies [] fits = omega (arith, fits)
before_counted copies (particle ∷ particles) fits = copies_counted copies particle.profile particle.most fits

pub place_counted : (place : Place) (d : PlainKind) → IsPlaceIn place d → IsCounted d place
place_counted place (valued datatype) at =
    let none : place.attributes ≡ 0 = at.0 in let low : place.particle ≤ 1 = at.1 in let first : place.copies ≡ 0 = at.2 in
    record { attributes = omega (arith, none); particle = omega (arith, low); copies = omega (arith, first) }
place_counted place (containing attributes particles) at =
    let low : place.attributes ≤ length attributes = at.0 in let in_them : place.particle ≤ length particles = at.1 in
    record { attributes = omega (arith, low); particle = omega (arith, in_them); copies = before_counted place.copies (drop place.particle particles) at.2 }

-- ---- no count is above 2 ^ 16

pub record IsSmall (d : PlainKind) : Type 0 where
  pub attributes : attribute_places d ≤ 65536
  pub particles : particle_places d ≤ 65536
  pub copies : (at : ℕ) → copy_places d at ≤ 65536

copies_small : (least profile : ℕ) (most : Option ℕ) → is_most least most ≡ true → profile < 65536 → copies_within profile most ≤ 65536
copies_small least profile None is limit = omega (arith, limit)
copies_small least profile (Some most) is limit =
    let low : most < 65536 = ltb-true most 65536 (and-r (nat_le 1 most && nat_le least most) (nat_lt most 65536) is) in omega (arith, low)

before_small : (names kinds : ℕ) (particles : List PlainParticle) → list_all (is_particle names kinds) particles ≡ true → copies_before particles ≤ 65536
before_small names kinds [] all = omega arith
before_small names kinds (particle ∷ particles) all =
    let one = and-l (is_particle names kinds particle) (list_all (is_particle names kinds) particles) all in
    let three = and-l _ (can_be_there particle) (and-l _ _ one) in
    copies_small particle.least particle.profile particle.most (and-l (is_most particle.least particle.most) (nat_lt particle.profile 65536) three)
    (ltb-true particle.profile 65536 (and-r (is_most particle.least particle.most) (nat_lt particle.profile 65536) three))

pub few_places : (s : PlainSchema) (kind : ℕ) (d : PlainKind) → slice_get s.kinds kind ≡ Some d → IsSmall d
few_places s kind (valued datatype) there = record { attributes = omega arith; particles = omega arith; copies = λ at. omega arith }
few_places s kind (containing attributes particles) there =
    let good = complex_in s kind attributes particles there in
    let a : length attributes ≤ 65535 = good.few_attributes in
    let p : length particles ≤ 65535 = good.few_particles in
    record {
      attributes = omega (arith, a);
      particles = omega (arith, p);
      copies = λ at. before_small (length s.names) (length s.kinds) (drop at particles)
          (fit_drop (is_particle (length s.names) (length s.kinds)) particles at good.particles_fit);
    }

-- ---- the particle of a table

copies_at : (particles : List Particle) (at : ℕ) (p : Particle) → at < length particles → p ≡ get_or particles at p → copies_within p.profile p.most ≡ copies_before (drop at (plain_particles particles))
copies_at [] at p less is = absurd (omega (arith, less))
copies_at (x ∷ particles) zero p less is = ap (λ (y : Particle). copies_within y.profile y.most) is
copies_at (x ∷ particles) (suc at) p less is = copies_at particles at p (omega (arith, less)) is

pub copies_in : (d : Declaration) (attributes : _) (particles : _) (at : ℕ) (p : Particle) (n : ℕ) → d ≡ Complex attributes particles → at < length particles.now → p ≡ get_or particles.now at p →
    n ≡ copies_within p.profile p.most → n ≡ copy_places (plain_kind d) at
copies_in d attributes particles at p n same less is count =
    subst (λ (x : Declaration). n ≡ copy_places (plain_kind x) at) (sym same) (count ∙ copies_at particles.now at p less is)

-- ---- the kind of a table

kind_found : (kinds : List Declaration) (k : ℕ) (D : Declaration) → k < length (plain_kinds kinds) → slice_get (plain_kinds kinds) k ≡ Some (plain_kind (get_or kinds k D))
kind_found [] k D less = absurd (omega (arith, less))
kind_found (x ∷ kinds) zero D less = refl
kind_found (x ∷ kinds) (suc k) D less = kind_found kinds k D (omega (arith, less))

pub few_attributes : (s : Schema) (k : ℕ) (D : Declaration) (n : ℕ) → k < length (plain_kinds s.kinds.now) → n ≡ attribute_places (plain_kind (get_or s.kinds.now k D)) → n ≤ 65536
few_attributes s k D n less is =
    let few : attribute_places (plain_kind (get_or s.kinds.now k D)) ≤ 65536 = (few_places (schema_of s) k (plain_kind (get_or s.kinds.now k D)) (kind_found s.kinds.now k D less)).attributes in
    omega (arith, few, is)
