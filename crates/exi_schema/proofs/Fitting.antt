-- Each step at a place of a schema is the schema's, and so is the place behind it.
use Rattle.std.proofs.Common.{◌≡◌, ℕ, zero, suc, ◌+◌, ◌<◌, ◌≤◌, nat_lt, Bool, true, false, ◌&&◌, if◌then◌else◌, List, [], ◌∷◌, ◌++◌, length, drop, map, Option, Some, None, refl, ap, subst, sym, ◌∙◌, inl, inr, ◌-◌, length-drop, arith, rules, IsSome}
use Rattle.std.proofs.lemmas.Bool.{leb-true, ltb-true}
use Rattle.std.specs.Prelude.{slice_get, ◌==◌}
use Rattle.std.proofs.lemmas.Option.{slice_get_cases}
use Rattle.exi_schema.specs.Schemas.{PlainSchema}
use Rattle.exi_schema.specs.declared.tables.Datatype.{Datatype}
use Rattle.exi_schema.specs.declared.places.Step.TheVariants.{Characters, End}
use Rattle.exi_schema.proofs.Walks.{through_short}
use Rattle.std.specs.List.{list_any, list_all}
use Rattle.exi_schema.specs.declared.tables.AttributeOf.{AttributeOf}
use Rattle.exi_schema.specs.Plain.{PlainKind, valued, containing, PlainParticle}
use Rattle.exi_schema.specs.declared.tables.Member.{Member}
use Rattle.exi_schema.specs.declared.places.Place.{Place}
use Rattle.exi_schema.specs.declared.places.Step.{Step}
use Rattle.exi_schema.specs.Offers.{through_required, attribute_steps, element_step, element_steps, behind_copy, leaves_room, FitsCopies, FitsParticles, IsPlaceAmong, IsPlaceIn, IsPlaceOf, IsPlace, simple_step, complex_steps}
use Rattle.exi_schema.specs.Schemas.{is_attribute, is_particle, is_most, is_simple, can_be_there, is_within, particles_of}
use Rattle.exi_schema.specs.Steps.{IsStep, datatype_of, simple_at}
use Rattle.exi_schema.proofs.Conditions.{and-l, and-r, IsComplex, complex_in}

abbrev pub EachStep : List PlainKind → ℕ → ℕ → List Step → Type 0
EachStep kinds names here [] = Unit {0}
EachStep kinds names here (step ∷ steps) = IsStep kinds names here step × EachStep kinds names here steps

pub each_get : (kinds : List PlainKind) (names here : ℕ) (steps : List Step) (i : ℕ) (step : Step) → EachStep kinds names here steps → Some step ≡ slice_get steps i → IsStep kinds names here step
each_get kinds names here [] i step each is = absurd cc
each_get kinds names here (s ∷ steps) zero step each is =
    let same : Some step ≡ Some s = is in let e : s ≡ step = cc in let P : Step → Type 0 = λ x. IsStep kinds names here x in subst P e each.0
each_get kinds names here (s ∷ steps) (suc i) step each is = each_get kinds names here steps i step each.1 is

pub each_append : (kinds : List PlainKind) (names here : ℕ) (xs ys : List Step) → EachStep kinds names here xs → EachStep kinds names here ys → EachStep kinds names here (xs ++ ys)
each_append kinds names here [] ys front back = back
each_append kinds names here (x ∷ xs) ys front back = (front.0, each_append kinds names here xs ys front.1 back)

pub simple_within : (kinds : List PlainKind) (k : ℕ) → is_simple (slice_get kinds k) ≡ true → k < length kinds
simple_within [] k is = absurd cc
simple_within (x ∷ kinds) zero is = omega arith
simple_within (x ∷ kinds) (suc k) is = let more : k < length kinds = simple_within kinds k is in omega (arith, more)

pub simple_is : (o : Option PlainKind) → is_simple o ≡ true → IsSome (datatype_of o)
simple_is None is = absurd cc
simple_is (Some (valued datatype)) is = search rules
simple_is (Some (containing attributes particles)) is = absurd cc

-- the members of a particle
abbrev pub members_within : List PlainKind → ℕ → PlainParticle → Bool
members_within kinds d particle = list_all (λ member. is_within kinds d member.kind) particle.members

pub place_in : (kinds : List PlainKind) (place : Place) (attributes : _) (particles : _) → slice_get kinds place.kind ≡ Some (containing attributes particles) →
    IsPlaceAmong place attributes particles → IsPlace kinds place
place_in kinds place attributes particles is at = let P : Option PlainKind → Type 0 = λ d. IsPlaceOf place d in subst P (sym is) at

pub and_both : (a b : Bool) → a ≡ true → b ≡ true → (a && b) ≡ true
and_both true b one two = two
and_both false b one two = one

pub by_flag : {X : Type 0} (b : Bool) (P : List X → Type 0) {xs : List X} → P [] → P xs → P (if b then [] else xs)
by_flag true P none some = none
by_flag false P none some = some

-- ---- attributes

pub fit_through : (test : AttributeOf → Bool) (attributes : List AttributeOf) → list_all test attributes ≡ true → list_all test (through_required attributes) ≡ true
fit_through test [] all = refl
fit_through test (attribute ∷ attributes) all =
    let first : test attribute ≡ true = and-l (test attribute) (list_all test attributes) all in
    let more : list_all test (through_required attributes) ≡ true = fit_through test attributes (and-r (test attribute) (list_all test attributes) all) in
    and_both (test attribute) (list_all test (if attribute.required then [] else through_required attributes)) first (by_flag attribute.required (λ xs. list_all test xs ≡ true) refl more)

pub fit_drop : {X : Type 0} (test : X → Bool) (xs : List X) (n : ℕ) → list_all test xs ≡ true → list_all test (drop n xs) ≡ true
fit_drop test xs zero all = all
fit_drop test [] (suc n) all = refl
fit_drop test (x ∷ xs) (suc n) all = fit_drop test xs n (and-r (test x) (list_all test xs) all)

pub each_attribute : (kinds : List PlainKind) (names : ℕ) (here : Place) (all : _) (particles : _) (at : ℕ) (attributes : List AttributeOf) →
    slice_get kinds here.kind ≡ Some (containing all particles) → IsPlaceAmong here all particles →
    at + length attributes ≤ length all → list_all (is_attribute names kinds) attributes ≡ true → EachStep kinds names here.kind (attribute_steps here at attributes)
each_attribute kinds names here all particles at [] is place within fits = tt
each_attribute kinds names here all particles at (attribute ∷ attributes) is place within fits =
    let first : is_attribute names kinds attribute ≡ true = and-l (is_attribute names kinds attribute) (list_all (is_attribute names kinds) attributes) fits in
    let next : Place = record { kind = here.kind; particle = here.particle; copies = here.copies; attributes = at + 1 } in
    let low : at + 1 ≤ length all = omega (arith, within) in (
      (
        ltb-true attribute.name names (and-l (nat_lt attribute.name names) (is_simple (slice_get kinds attribute.kind)) first),
        simple_within kinds attribute.kind (and-r (nat_lt attribute.name names) (is_simple (slice_get kinds attribute.kind)) first),
        simple_is (slice_get kinds attribute.kind) (and-r (nat_lt attribute.name names) (is_simple (slice_get kinds attribute.kind)) first),
        place_in kinds next all particles is (low, place.1, place.2),
      ),
      each_attribute kinds names here all particles (at + 1) attributes is place (omega (arith, within)) (and-r (is_attribute names kinds attribute) (list_all (is_attribute names kinds) attributes) fits),
    )

-- ---- elements

pub first_of : (least : ℕ) (most : Option ℕ) (profile : ℕ) → is_most least most ≡ true → FitsCopies 0 profile most
first_of least None profile is = omega arith
first_of least (Some most) profile is = let low : 1 ≤ most = leb-true 1 most (and-l _ _ (and-l _ _ is)) in omega (arith, low)

-- the first of the particles on is asked for its maximum
pub fits_first : (names kinds : ℕ) (particles : List PlainParticle) → list_all (is_particle names kinds) particles ≡ true → FitsParticles 0 particles
fits_first names kinds [] all = refl
fits_first names kinds (particle ∷ particles) all =
    first_of particle.least particle.most particle.profile (and-l _ _ (and-l _ _ (and-l _ _ (and-l (is_particle names kinds particle) (list_all (is_particle names kinds) particles) all))))

pub copy_fits : (copies profile : ℕ) (most : Option ℕ) → copies < profile → leaves_room most (copies + 1) ≡ true → FitsCopies (copies + 1) profile most
copy_fits copies profile None less room = omega (arith, less)
copy_fits copies profile (Some most) less room = ltb-true (copies + 1) most room

pub drop_next : {X : Type 0} (xs : List X) (at : ℕ) (x : X) (more : List X) → drop at xs ≡ x ∷ more → drop (suc at) xs ≡ more
drop_next [] zero x more is = absurd cc
drop_next [] (suc at) x more is = absurd cc
drop_next (y ∷ ys) zero x more is = let same : y ∷ ys ≡ x ∷ more = is in let e : ys ≡ more = cc in e
drop_next (y ∷ ys) (suc at) x more is = drop_next ys at x more is

pub behind_by : (r : Bool) (kinds : List PlainKind) (here : Place) (all : _) (particles : _) (at copies : ℕ) (particle : PlainParticle) (more : List PlainParticle) →
    slice_get kinds here.kind ≡ Some (containing all particles) → at < length particles → drop at particles ≡ particle ∷ more → FitsParticles 0 more →
    copies < particle.profile → leaves_room particle.most (copies + 1) ≡ r →
    IsPlace kinds (if r then record { kind = here.kind; particle = at; copies = copies + 1; attributes = length all }
    else record { kind = here.kind; particle = at + 1; copies = 0; attributes = length all })
behind_by true kinds here all particles at copies particle more there within parts fits less room =
    let P : List PlainParticle → Type 0 = λ xs. FitsParticles (copies + 1) xs in
    let low : length all ≤ length all = omega arith in
    let in_them : at ≤ length particles = omega (arith, within) in
    place_in kinds (record { kind = here.kind; particle = at; copies = copies + 1; attributes = length all }) all particles there
    (low, in_them, subst P (sym parts) (copy_fits copies particle.profile particle.most less room))
behind_by false kinds here all particles at copies particle more there within parts fits less room =
    let P : List PlainParticle → Type 0 = λ xs. FitsParticles 0 xs in
    let next : suc at ≡ at + 1 = omega arith in
    let rest : drop (at + 1) particles ≡ more = ap (λ k. drop k particles) (sym next) ∙ drop_next particles at particle more parts in
    let low : length all ≤ length all = omega arith in
    let in_them : at + 1 ≤ length particles = omega (arith, within) in
    place_in kinds (record { kind = here.kind; particle = at + 1; copies = 0; attributes = length all }) all particles there
    (low, in_them, subst P (sym rest) fits)

pub next_by : (b : Bool) (kinds : List PlainKind) (here : Place) (all : _) (particles : _) (at copies : ℕ) (particle : PlainParticle) (more : List PlainParticle) →
    slice_get kinds here.kind ≡ Some (containing all particles) → IsPlaceAmong here all particles →
    at < length particles → drop at particles ≡ particle ∷ more → FitsParticles 0 more → nat_lt copies particle.profile ≡ b →
    IsPlace kinds (if b then behind_copy here.kind (length all) at copies particle.most else here)
next_by true kinds here all particles at copies particle more there place within parts fits is =
    behind_by (leaves_room particle.most (copies + 1)) kinds here all particles at copies particle more there within parts fits (ltb-true copies particle.profile is) refl
next_by false kinds here all particles at copies particle more there place within parts fits is = place_in kinds here all particles there place

pub members_of : (kinds : List PlainKind) (k d : ℕ) (all : _) (particles : _) → slice_get kinds k ≡ Some (containing all particles) → is_within kinds (suc d) k ≡ true →
    list_all (members_within kinds d) particles ≡ true
members_of kinds k d all particles there deep =
    let P : Option PlainKind → Type 0 = λ x. list_all (members_within kinds d) (particles_of x) ≡ true in subst P there deep

pub each_member : (kinds : List PlainKind) (names : ℕ) (here : Place) (attributes at copies : ℕ) (particle : PlainParticle) (members : List Member) →
    IsPlace kinds (if nat_lt copies particle.profile then behind_copy here.kind attributes at copies particle.most else here) →
    list_all (λ member. nat_lt member.name names && nat_lt member.kind (length kinds)) members ≡ true →
    ((d : ℕ) → is_within kinds (suc d) here.kind ≡ true → list_all (λ member. is_within kinds d member.kind) members ≡ true) →
    EachStep kinds names here.kind (map (element_step here attributes at copies particle) members)
each_member kinds names here attributes at copies particle [] next all deep = tt
each_member kinds names here attributes at copies particle (member ∷ members) next all deep =
    let first = and-l (nat_lt member.name names && nat_lt member.kind (length kinds)) (list_all (λ m. nat_lt m.name names && nat_lt m.kind (length kinds)) members) all in
    let more = and-r (nat_lt member.name names && nat_lt member.kind (length kinds)) (list_all (λ m. nat_lt m.name names && nat_lt m.kind (length kinds)) members) all in (
      (
        ltb-true member.name names (and-l (nat_lt member.name names) (nat_lt member.kind (length kinds)) first),
        ltb-true member.kind (length kinds) (and-r (nat_lt member.name names) (nat_lt member.kind (length kinds)) first),
        next,
        λ d is. and-l (is_within kinds d member.kind) (list_all (λ m. is_within kinds d m.kind) members) (deep d is),
      ),
      each_member kinds names here attributes at copies particle members next more (λ d is. and-r (is_within kinds d member.kind) (list_all (λ m. is_within kinds d m.kind) members) (deep d is)),
    )

pub each_by_flag : (b : Bool) (kinds : List PlainKind) (names here : ℕ) (steps : List Step) → EachStep kinds names here steps → EachStep kinds names here (if b then [] else steps)
each_by_flag true kinds names here steps each = tt
each_by_flag false kinds names here steps each = each

pub each_element : (kinds : List PlainKind) (names : ℕ) (here : Place) (all : _) (particles : _) (at copies : ℕ) (rest : List PlainParticle) →
    slice_get kinds here.kind ≡ Some (containing all particles) → IsPlaceAmong here all particles →
    at + length rest ≡ length particles → drop at particles ≡ rest → list_all (is_particle names (length kinds)) rest ≡ true →
    ((d : ℕ) → is_within kinds (suc d) here.kind ≡ true → list_all (members_within kinds d) rest ≡ true) →
    EachStep kinds names here.kind (element_steps here (length all) at copies rest)
each_element kinds names here all particles at copies [] there place long parts fits deep = (tt, tt)
each_element kinds names here all particles at copies (particle ∷ more) there place long parts fits deep =
    let first = and-l (is_particle names (length kinds) particle) (list_all (is_particle names (length kinds)) more) fits in
    let others = and-r (is_particle names (length kinds) particle) (list_all (is_particle names (length kinds)) more) fits in
    let within : at < length particles = omega (arith, long) in
    let next : suc at ≡ at + 1 = omega arith in
    let rest : drop (at + 1) particles ≡ more = ap (λ k. drop k particles) (sym next) ∙ drop_next particles at particle more parts in
    each_append kinds names here.kind (map (element_step here (length all) at copies particle) particle.members) (if nat_lt copies particle.least then [] else element_steps here (length all) (at + 1) 0 more)
    (each_member kinds names here (length all) at copies particle particle.members
    (next_by (nat_lt copies particle.profile) kinds here all particles at copies particle more there place within parts (fits_first names (length kinds) more others) refl)
    (and-r (is_most particle.least particle.most && nat_lt particle.profile 65536 && can_be_there particle) _ first)
    (λ d is. and-l (members_within kinds d particle) (list_all (members_within kinds d) more) (deep d is)))
    (each_by_flag (nat_lt copies particle.least) kinds names here.kind (element_steps here (length all) (at + 1) 0 more)
    (each_element kinds names here all particles (at + 1) 0 more there place (omega (arith, long)) rest others
    (λ d is. and-r (members_within kinds d particle) (list_all (members_within kinds d) more) (deep d is))))

pub each_complex : (kinds : List PlainKind) (names : ℕ) (here : Place) (all : _) (particles : _) →
    slice_get kinds here.kind ≡ Some (containing all particles) → IsPlaceAmong here all particles → IsComplex names kinds all particles →
    EachStep kinds names here.kind (complex_steps here all particles)
each_complex kinds names here all particles there place is =
    let short : length (through_required (drop here.attributes all)) ≤ length (drop here.attributes all) = through_short (drop here.attributes all) in
    let left : length (drop here.attributes all) ≡ length all - here.attributes = length-drop here.attributes all in
    let more : length (drop here.particle particles) ≡ length particles - here.particle = length-drop here.particle particles in
    let low = place.0 in let in_them = place.1 in
    each_append kinds names here.kind (attribute_steps here here.attributes (through_required (drop here.attributes all)))
    (if list_any (λ attribute. attribute.required) (drop here.attributes all) then []
    else element_steps here (length all) here.particle here.copies (drop here.particle particles))
    (each_attribute kinds names here all particles here.attributes (through_required (drop here.attributes all)) there place (omega (arith, short, left, low))
    (fit_through (is_attribute names kinds) (drop here.attributes all) (fit_drop (is_attribute names kinds) all here.attributes is.attributes_fit)))
    (each_by_flag (list_any (λ attribute. attribute.required) (drop here.attributes all)) kinds names here.kind (element_steps here (length all) here.particle here.copies (drop here.particle particles))
    (each_element kinds names here all particles here.particle here.copies (drop here.particle particles) there place (omega (arith, more, in_them)) refl
    (fit_drop (is_particle names (length kinds)) particles here.particle is.particles_fit)
    (λ d deep. fit_drop (members_within kinds d) particles here.particle (members_of kinds here.kind d all particles there deep))))

pub simple_fits : (kinds : List PlainKind) (names : ℕ) (here : Place) (datatype : Datatype) → slice_get kinds here.kind ≡ Some (valued datatype) → IsPlaceIn here (valued datatype) →
    IsStep kinds names here.kind (simple_step here)
simple_fits kinds names here datatype there place =
    let P : Option PlainKind → Type 0 = λ d. IsPlaceOf (record { kind = here.kind; particle = 1; copies = 0; attributes = 0 }) d in
    let low : 1 ≤ 1 = omega arith in
    let next : IsPlace kinds (record { kind = here.kind; particle = 1; copies = 0; attributes = 0 }) = subst P (sym there) (refl, low, refl) in
    let Q : Option PlainKind → Type 0 = λ d. IsSome (datatype_of d) in
    let simple : IsSome (simple_at kinds here.kind) = subst Q (sym there) (simple_is (Some (valued datatype)) refl) in
    elim (here.particle == 0) as (λ b. IsStep kinds names here.kind (if b then Characters (record { kind = here.kind; particle = 1; copies = 0; attributes = 0 }) else End)) [ true ↦ (simple, next) | false ↦ tt ]

pub first_code : (step : Step) (code : ℕ) → code < 1 → Some step ≡ slice_get (step ∷ []) code
first_code step zero less = refl
first_code step (suc code) less = absurd (omega (arith, less))

-- the first place of a kind
pub first_in : (s : PlainSchema) (k : ℕ) (declaration : PlainKind) → slice_get s.kinds k ≡ Some declaration → IsPlaceIn (record { kind = k; particle = 0; copies = 0; attributes = 0 }) declaration
first_in s k (valued datatype) is = let low : 0 ≤ 1 = omega arith in (refl, low, refl)
first_in s k (containing attributes particles) is =
    let good = complex_in s k attributes particles is in
    let low : 0 ≤ length attributes = omega arith in
    let in_them : 0 ≤ length particles = omega arith in
    (low, in_them, fits_first (length s.names) (length s.kinds) particles good.particles_fit)

pub first_place : (s : PlainSchema) (k : ℕ) → k < length s.kinds → IsPlace s.kinds (record { kind = k; particle = 0; copies = 0; attributes = 0 })
first_place s k less =
    elim (slice_get_cases s.kinds k).1 [
      | inl is ↦ let P : Option PlainKind → Type 0 = λ d. IsPlaceOf (record { kind = k; particle = 0; copies = 0; attributes = 0 }) d in subst P (sym is.2) (first_in s k is.0 is.2)
      | inr past ↦ let more = past.0 in absurd (omega (arith, less, more))
    ]
