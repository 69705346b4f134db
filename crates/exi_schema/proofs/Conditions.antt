-- What the conditions on a schema give at one kind and one place.
use Rattle.std.proofs.Common.{◌≡◌, ℕ, zero, suc, ◌+◌, ◌<◌, ◌≤◌, nat_lt, nat_le, Bool, true, false, ◌&&◌, if◌then◌else◌, List, [], ◌∷◌, length, drop, get_or, Option, Some, None, refl, ap, subst, sym, inl, inr, arith}
use Rattle.std.proofs.lemmas.Bool.{leb-true, lt-ltb}
use Rattle.std.proofs.lemmas.Bool.Decides.{leb_tells}
use Rattle.std.specs.Prelude.{slice_get}
use Rattle.std.specs.List.{list_any, list_all}
use Rattle.exi_schema.specs.Schemas.{PlainSchema}
use Rattle.exi_schema.specs.declared.tables.AttributeOf.{AttributeOf}
use Rattle.exi_schema.specs.Plain.{PlainKind, valued, containing, PlainParticle}
use Rattle.exi_schema.specs.declared.tables.Datatype.{Datatype}
use Rattle.exi_schema.specs.declared.tables.RootOf.{RootOf}
use Rattle.exi_schema.specs.declared.places.Place.{Place}
use Rattle.exi_schema.specs.Counts.{element_total}
use Rattle.exi_schema.specs.Offers.{through_required, leaves_room, FitsCopies, FitsParticles, IsPlaceAmong, IsPlaceIn, IsPlaceOf, IsPlace, complex_steps}
use Rattle.exi_schema.specs.Schemas.{is_schema, is_declaration, is_datatype, is_attribute, is_particle, each_to, widest, are_kinds, are_roots, are_words, are_values, are_distinct, attribute_names, element_names}
use Rattle.exi_schema.specs.Steps.{datatype_of, simple_at}
use Rattle.exi_schema.proofs.Walks.{length_complex}

pub and-l : (a b : Bool) → (a && b) ≡ true → a ≡ true
and-l true b is = refl
and-l false b is = is

pub and-r : (a b : Bool) → (a && b) ≡ true → b ≡ true
and-r true b is = is
and-r false true is = refl
and-r false false is = is

pub all_get : {X : Type 0} (test : X → Bool) (xs : List X) (i : ℕ) (x : X) → list_all test xs ≡ true → slice_get xs i ≡ Some x → test x ≡ true
all_get test [] i x all is = cc
all_get {X} test (y ∷ ys) zero x all is =
    let same : Some y ≡ Some x = is in let e : y ≡ x = cc in let P : X → Type 0 = λ z. test z ≡ true in subst P e (and-l (test y) (list_all test ys) all)
all_get test (y ∷ ys) (suc i) x all is = all_get test ys i x (and-r (test y) (list_all test ys) all) is

pub each_at : (n : ℕ) (test : ℕ → Bool) (i : ℕ) → each_to n test ≡ true → i ≤ n → test i ≡ true
each_at zero test i all within = let e : zero ≡ i = omega arith in let P : ℕ → Type 0 = λ k. test k ≡ true in subst P e all
each_at (suc n) test i all within =
    elim (leb_tells i n) [
      | inl is ↦ each_at n test i (and-r (test (suc n)) (each_to n test) all) is.1
      | inr is ↦ let e : suc n ≡ i = omega (arith, is.1) in let P : ℕ → Type 0 = λ k. test k ≡ true in subst P e (and-l (test (suc n)) (each_to n test) all)
    ]

pub kind_at : (kinds : List PlainKind) (k : ℕ) (d declaration : PlainKind) → k < length kinds → get_or kinds k d ≡ declaration → slice_get kinds k ≡ Some declaration
kind_at [] k d declaration within is = absurd (omega (arith, within))
kind_at (x ∷ xs) zero d declaration within is = ap Some is
kind_at (x ∷ xs) (suc k) d declaration within is = kind_at xs k d declaration (omega (arith, within)) is

-- ---- the parts of the conditions

pub kinds_of : (kinds : List PlainKind) (names : List (List ℕ)) (values : List (List (List ℕ))) (bits : ℕ) (roots : List RootOf) →
    is_schema kinds names values bits roots ≡ true → are_kinds (length names) kinds ≡ true
kinds_of kinds names values bits roots is =
    and-l _ (are_roots bits (length names) kinds roots) (and-l _ (are_words names) (and-l _ (are_values kinds values) is))

pub declared : (names : ℕ) (kinds : List PlainKind) (k : ℕ) (declaration : PlainKind) →
    are_kinds names kinds ≡ true → slice_get kinds k ≡ Some declaration → is_declaration names kinds declaration ≡ true
declared names kinds k declaration is at =
    all_get (is_declaration names kinds) kinds k declaration (and-l _ _ is) at

pub record IsComplex (names : ℕ) (kinds : List PlainKind) (attributes : List AttributeOf) (particles : List PlainParticle) : Type 0 where
  pub few_attributes : length attributes ≤ 65535
  pub few_particles : length particles ≤ 65535
  pub attributes_fit : list_all (is_attribute names kinds) attributes ≡ true
  pub particles_fit : list_all (is_particle names (length kinds)) particles ≡ true
  pub few_offers : (a p : ℕ) → a ≤ length attributes → p ≤ length particles →
      length (complex_steps (record { kind = 0; particle = p; copies = widest (drop p particles); attributes = a }) attributes particles) ≤ 65535

pub complex_of : (names : ℕ) (kinds : List PlainKind) (attributes : _) (particles : _) →
    is_declaration names kinds (containing attributes particles) ≡ true → IsComplex names kinds attributes particles
complex_of names kinds attributes particles is =
    let four = and-l _ _ is in let three = and-l _ _ four in let two = and-l _ _ three in
    record {
      few_attributes = leb-true _ _ (and-l _ _ two);
      few_particles = leb-true _ _ (and-r (nat_le (length attributes) 65535) _ two);
      attributes_fit = and-r (nat_le (length attributes) 65535 && nat_le (length particles) 65535) _ three;
      particles_fit = and-r (nat_le (length attributes) 65535 && nat_le (length particles) 65535 && list_all (is_attribute names kinds) attributes) _ four;
      few_offers = λ a p within inside.
          let here : Place = record { kind = 0; particle = p; copies = widest (drop p particles); attributes = a } in
          let whole = and-r (nat_le (length attributes) 65535 && nat_le (length particles) 65535 && list_all (is_attribute names kinds) attributes && list_all (is_particle names (length kinds)) particles) _ is in
          leb-true _ _ (and-l _ (are_distinct (attribute_names (complex_steps here attributes particles)))
          (and-l _ (are_distinct (element_names (complex_steps here attributes particles)))
          (each_at (length particles) _ p (each_at (length attributes) _ a whole within) inside)));
    }

-- ---- the number of offers at any place

pub wide_by : (b c : Bool) (n total : ℕ) → (b ≡ false → c ≡ false) → n + (if b then 0 else total) ≤ n + (if c then 0 else total)
wide_by true true n total to = omega arith
wide_by true false n total to = omega arith
wide_by false true n total to = let wrong : true ≡ false = to refl in absurd cc
wide_by false false n total to = omega arith

pub not_below : (n : ℕ) → nat_lt n n ≡ false
not_below n = elim (leb_tells (suc n) n) [ inl is ↦ absurd (omega (arith, is.1)) | inr is ↦ is.0 ]

pub wide_room : (most : Option ℕ) (least copies profile : ℕ) → FitsCopies copies profile most → nat_lt copies least ≡ false → leaves_room most least ≡ true
wide_room None least copies profile fits is = refl
wide_room (Some most) least copies profile fits is =
    elim (leb_tells (suc copies) least) [
      | inl less ↦ let wrong : nat_lt copies least ≡ true = less.0 in absurd cc
      | inr more ↦ lt-ltb least most (omega (arith, fits, more.1))
    ]

pub total_wide : (particles : List PlainParticle) (copies : ℕ) → FitsParticles copies particles → element_total copies particles ≤ element_total (widest particles) particles
total_wide [] copies fits = omega arith
total_wide (particle ∷ particles) copies fits =
    wide_by (nat_lt copies particle.least) (nat_lt (widest (particle ∷ particles)) particle.least) (length particle.members) (element_total 0 particles)
    (λ is. let room : leaves_room particle.most particle.least ≡ true = wide_room particle.most particle.least copies particle.profile fits is in
    let P : Bool → Type 0 = λ b. nat_lt (if b then particle.least else 0) particle.least ≡ false in
    subst P (sym room) (not_below particle.least))

pub sum_by_flag : (b : Bool) (n small large : ℕ) → small ≤ large → n + (if b then 0 else small) ≤ n + (if b then 0 else large)
sum_by_flag true n small large is = omega arith
sum_by_flag false n small large is = omega (arith, is)

pub few_steps : (names : ℕ) (kinds : List PlainKind) (attributes : List AttributeOf) (particles : List PlainParticle) (place : Place) →
    IsComplex names kinds attributes particles → IsPlaceAmong place attributes particles → length (complex_steps place attributes particles) ≤ 65535
few_steps names kinds attributes particles place is at =
    let wide : Place = record { kind = 0; particle = place.particle; copies = widest (drop place.particle particles); attributes = place.attributes } in
    let most : length (complex_steps wide attributes particles) ≤ 65535 = is.few_offers place.attributes place.particle at.0 at.1 in
    let long = length_complex wide attributes particles in
    let here = length_complex place attributes particles in
    let more = sum_by_flag (list_any (λ attribute. attribute.required) (drop place.attributes attributes)) (length (through_required (drop place.attributes attributes)))
    (element_total place.copies (drop place.particle particles)) (element_total (widest (drop place.particle particles)) (drop place.particle particles))
    (total_wide (drop place.particle particles) place.copies at.2) in
    omega (arith, most, long, here, more)

pub place_within : (kinds : List PlainKind) (place : Place) (k : ℕ) → IsPlaceOf place (slice_get kinds k) → k < length kinds
place_within [] place k at = absurd at
place_within (x ∷ kinds) place zero at = omega arith
place_within (x ∷ kinds) place (suc k) at = let more : k < length kinds = place_within kinds place k at in omega (arith, more)

-- the kind of a place
pub found_kind : (kinds : List PlainKind) (place : Place) (d declaration : PlainKind) → IsPlace kinds place → get_or kinds place.kind d ≡ declaration →
    (slice_get kinds place.kind ≡ Some declaration) × IsPlaceIn place declaration
found_kind kinds place d declaration at is =
    let there : slice_get kinds place.kind ≡ Some declaration = kind_at kinds place.kind d declaration (place_within kinds place place.kind at) is in
    let P : Option PlainKind → Type 0 = λ x. IsPlaceOf place x in (there, subst P there at)

-- a complex kind of a schema
pub complex_in : (s : PlainSchema) (k : ℕ) (attributes : _) (particles : _) → slice_get s.kinds k ≡ Some (containing attributes particles) →
    IsComplex (length s.names) s.kinds attributes particles
complex_in s k attributes particles at =
    complex_of (length s.names) s.kinds attributes particles
    (declared (length s.names) s.kinds k (containing attributes particles) (kinds_of s.kinds s.names s.values s.root_bits s.roots s.fits) at)

-- ---- the datatype of a simple kind

fits_by : (s : PlainSchema) (kind : ℕ) (o : Option PlainKind) (d : Datatype) → slice_get s.kinds kind ≡ o → datatype_of o ≡ Some d → is_datatype d ≡ true
fits_by s kind None d at is = let wrong : None ≡ Some d = is in absurd cc
fits_by s kind (Some (containing attributes particles)) d at is = let wrong : None ≡ Some d = is in absurd cc
fits_by s kind (Some (valued e)) d at is =
    let whole : Some e ≡ Some d = is in
    let same : e ≡ d = cc in
    subst (λ (x : Datatype). is_datatype x ≡ true) same
    (declared (length s.names) s.kinds kind (valued e) (kinds_of s.kinds s.names s.values s.root_bits s.roots s.fits) at)

pub datatype_fits : (s : PlainSchema) (kind : ℕ) (d : Datatype) → simple_at s.kinds kind ≡ Some d → is_datatype d ≡ true
datatype_fits s kind d is = fits_by s kind (slice_get s.kinds kind) d refl is
