-- How the steps at a place are counted and found.
use Rattle.std.proofs.Common.{◌≡◌, ℕ, zero, suc, ◌+◌, ◌-◌, ◌<◌, ◌≤◌, nat_lt, Bool, true, false, if◌then◌else◌, List, [], ◌∷◌, ◌++◌, length, drop, map, get_or, Option, Some, refl, ap, subst, sym, ◌∙◌, arith, length-append, drop-cons}
use Rattle.std.proofs.lemmas.List.{length-map}
use Rattle.std.specs.Prelude.{slice_get}
use Rattle.std.specs.List.{list_any}
use Rattle.exi_schema.specs.declared.tables.AttributeOf.{AttributeOf}
use Rattle.exi_schema.specs.declared.tables.Member.{Member}
use Rattle.exi_schema.specs.Plain.{PlainParticle}
use Rattle.exi_schema.specs.declared.places.Place.{Place}
use Rattle.exi_schema.specs.declared.places.Step.{Step}
use Rattle.exi_schema.specs.Counts.{element_total}
use Rattle.exi_schema.specs.Offers.{through_required, attribute_step, attribute_steps, element_step, element_steps, complex_steps}

pub get-map-append : {X Y : Type 0} (f : X → Y) (xs : List X) (ys : List Y) (i : ℕ) (d : X) → i < length xs → slice_get (map f xs ++ ys) i ≡ Some (f (get_or xs i d))
get-map-append f [] ys i d less = absurd (omega (arith, less))
get-map-append f (x ∷ xs) ys zero d less = refl
get-map-append f (x ∷ xs) ys (suc i) d less = get-map-append f xs ys i d (omega (arith, less))

pub get-append-past : {Y : Type 0} (xs ys : List Y) (i : ℕ) → length xs ≤ i → slice_get ys (i - length xs) ≡ slice_get (xs ++ ys) i
get-append-past [] ys i more = let e : i - 0 ≡ i = omega arith in ap (λ k. slice_get ys k) e
get-append-past (x ∷ xs) ys zero more = absurd (omega (arith, more))
get-append-past (x ∷ xs) ys (suc i) more =
    let e : suc i - suc (length xs) ≡ i - length xs = omega arith in rw e (get-append-past xs ys i (omega (arith, more)))

pub get-append-front : {Y : Type 0} (xs ys : List Y) (i : ℕ) → i < length xs → slice_get (xs ++ ys) i ≡ slice_get xs i
get-append-front [] ys i less = absurd (omega (arith, less))
get-append-front (x ∷ xs) ys zero less = refl
get-append-front (x ∷ xs) ys (suc i) less = get-append-front xs ys i (omega (arith, less))

pub length_elements : (here : Place) (attributes at copies : ℕ) (particles : List PlainParticle) → length (element_steps here attributes at copies particles) ≡ element_total copies particles
length_elements here attributes at copies [] = refl
length_elements here attributes at copies (particle ∷ particles) =
    let more : length (element_steps here attributes (at + 1) 0 particles) ≡ element_total 0 particles = length_elements here attributes (at + 1) 0 particles in
    elim (nat_lt copies particle.least) as (λ b. length (map (element_step here attributes at copies particle) particle.members ++ (if b then [] else element_steps here attributes (at + 1) 0 particles)) ≡ length particle.members + (if b then 0 else element_total 0 particles)) [
      | true ↦ grind (arith, length-append, length-map)
      | false ↦ grind (arith, length-append, length-map, more)
    ]

pub length_attributes : (here : Place) (at : ℕ) (attributes : List AttributeOf) → length (attribute_steps here at attributes) ≡ length attributes
length_attributes here at [] = refl
length_attributes here at (attribute ∷ attributes) = ap suc (length_attributes here (at + 1) attributes)

pub length_complex : (place : Place) (attributes : List AttributeOf) (particles : List PlainParticle) →
    length (complex_steps place attributes particles) ≡ length (through_required (drop place.attributes attributes))
    + (if list_any (λ attribute. attribute.required) (drop place.attributes attributes) then 0 else element_total place.copies (drop place.particle particles))
length_complex place attributes particles =
    let front : length (attribute_steps place place.attributes (through_required (drop place.attributes attributes))) ≡ length (through_required (drop place.attributes attributes)) = length_attributes place place.attributes (through_required (drop place.attributes attributes)) in
    let more : length (element_steps place (length attributes) place.particle place.copies (drop place.particle particles)) ≡ element_total place.copies (drop place.particle particles) = length_elements place (length attributes) place.particle place.copies (drop place.particle particles) in
    elim (list_any (λ attribute. attribute.required) (drop place.attributes attributes))
    as (λ b. length (attribute_steps place place.attributes (through_required (drop place.attributes attributes)) ++ (if b then [] else element_steps place (length attributes) place.particle place.copies (drop place.particle particles))) ≡ length (through_required (drop place.attributes attributes)) + (if b then 0 else element_total place.copies (drop place.particle particles))) [
      | true ↦ grind (arith, length-append, front)
      | false ↦ grind (arith, length-append, front, more)
    ]

-- an element of the particle at hand
pub found_at : (here : Place) (attributes at copies left : ℕ) (particles : List PlainParticle) (d : PlainParticle) (e : Member) → at < length particles →
    left < length (get_or particles at d).members →
    Some (element_step here attributes at copies (get_or particles at d) (get_or (get_or particles at d).members left e)) ≡ slice_get (element_steps here attributes at copies (drop at particles)) left
found_at here attributes at copies left particles d e within less =
    rw (drop-cons particles at d within) (sym (get-map-append (element_step here attributes at copies (get_or particles at d)) (get_or particles at d).members
    (if nat_lt copies (get_or particles at d).least then [] else element_steps here attributes (at + 1) 0 (drop (suc at) particles)) left e less))

pub passed_by : (b : Bool) (n left total : ℕ) (steps : List Step) (whole : Option Step) → n ≤ left → left < n + (if b then 0 else total) →
    slice_get (if b then [] else steps) (left - n) ≡ whole → (left - n < total) × (slice_get steps (left - n) ≡ whole)
passed_by true n left total steps whole more less is = absurd (omega (arith, more, less))
passed_by false n left total steps whole more less is = (omega (arith, more, less), is)

-- a particle that is passed over
pub passed_over : (here : Place) (attributes at copies left : ℕ) (particle : PlainParticle) (particles : List PlainParticle) →
    length particle.members ≤ left → left < element_total copies (particle ∷ particles) →
    (left - length particle.members < element_total 0 particles)
    × (slice_get (element_steps here attributes (at + 1) 0 particles) (left - length particle.members) ≡ slice_get (element_steps here attributes at copies (particle ∷ particles)) left)
passed_over here attributes at copies left particle particles more less =
    let last : slice_get (if nat_lt copies particle.least then [] else element_steps here attributes (at + 1) 0 particles) (left - length particle.members) ≡ slice_get (element_steps here attributes at copies (particle ∷ particles)) left =
    let long : length (map (element_step here attributes at copies particle) particle.members) ≡ length particle.members = length-map particle.members (element_step here attributes at copies particle) in
    rw (← long) (get-append-past (map (element_step here attributes at copies particle) particle.members) (if nat_lt copies particle.least then [] else element_steps here attributes (at + 1) 0 particles) left (omega (arith, long, more))) in
    passed_by (nat_lt copies particle.least) (length particle.members) left (element_total 0 particles) (element_steps here attributes (at + 1) 0 particles) (slice_get (element_steps here attributes at copies (particle ∷ particles)) left) more less last

pub passed_at : (here : Place) (attributes at copies left : ℕ) (particles : List PlainParticle) (d : PlainParticle) → at < length particles →
    length (get_or particles at d).members ≤ left → left < element_total copies (drop at particles) →
    (left - length (get_or particles at d).members < element_total 0 (drop (at + 1) particles))
    × (slice_get (element_steps here attributes (at + 1) 0 (drop (at + 1) particles)) (left - length (get_or particles at d).members)
    ≡ slice_get (element_steps here attributes at copies (drop at particles)) left)
passed_at here attributes at copies left particles d within more less =
    let next : suc at ≡ at + 1 = omega arith in
    let parts : drop at particles ≡ get_or particles at d ∷ drop (at + 1) particles = drop-cons particles at d within ∙ ap (λ k. get_or particles at d ∷ drop k particles) next in
    let Less : List PlainParticle → Type 0 = λ xs. left < element_total copies xs in
    let Both : List PlainParticle → Type 0 = λ xs. (left - length (get_or particles at d).members < element_total 0 (drop (at + 1) particles))
    × (slice_get (element_steps here attributes (at + 1) 0 (drop (at + 1) particles)) (left - length (get_or particles at d).members)
    ≡ slice_get (element_steps here attributes at copies xs) left) in
    subst Both (sym parts) (passed_over here attributes at copies left (get_or particles at d) (drop (at + 1) particles) more (subst Less parts less))

pub through_short : (attributes : List AttributeOf) → length (through_required attributes) ≤ length attributes
through_short [] = omega arith
through_short (attribute ∷ attributes) =
    let more : length (through_required attributes) ≤ length attributes = through_short attributes in
    elim attribute.required as (λ b. suc (length (if b then [] else through_required attributes)) ≤ suc (length attributes))
    [ true ↦ omega arith | false ↦ omega (arith, more) ]

pub attribute_next : (b : Bool) (here : Place) (at : ℕ) (attributes : List AttributeOf) (i : ℕ) (d : AttributeOf) →
    (i < length (through_required attributes) → slice_get (attribute_steps here (at + 1) (through_required attributes)) i ≡ Some (attribute_step here ((at + 1) + i) (get_or attributes i d))) →
    suc i < suc (length (if b then [] else through_required attributes)) →
    slice_get (attribute_steps here (at + 1) (if b then [] else through_required attributes)) i ≡ Some (attribute_step here (at + suc i) (get_or attributes i d))
attribute_next true here at attributes i d get less = absurd (omega (arith, less))
attribute_next false here at attributes i d get less =
    let e : (at + 1) + i ≡ at + suc i = omega arith in
    get (omega (arith, less)) ∙ ap (λ k. Some (attribute_step here k (get_or attributes i d))) e

pub attribute_get : (here : Place) (at : ℕ) (attributes : List AttributeOf) (i : ℕ) (d : AttributeOf) → i < length (through_required attributes) →
    slice_get (attribute_steps here at (through_required attributes)) i ≡ Some (attribute_step here (at + i) (get_or attributes i d))
attribute_get here at [] i d less = absurd (omega (arith, less))
attribute_get here at (attribute ∷ attributes) zero d less = let e : at + 0 ≡ at = omega arith in ap (λ k. Some (attribute_step here k attribute)) (sym e)
attribute_get here at (attribute ∷ attributes) (suc i) d less =
    attribute_next attribute.required here at attributes i d (λ l. attribute_get here (at + 1) attributes i d l) less

pub found_attribute : (place : Place) (attributes : List AttributeOf) (particles : List PlainParticle) (code : ℕ) (d : AttributeOf) →
    code < length (through_required (drop place.attributes attributes)) →
    Some (attribute_step place (place.attributes + code) (get_or (drop place.attributes attributes) code d)) ≡ slice_get (complex_steps place attributes particles) code
found_attribute place attributes particles code d less =
    let long : length (attribute_steps place place.attributes (through_required (drop place.attributes attributes))) ≡ length (through_required (drop place.attributes attributes)) = length_attributes place place.attributes (through_required (drop place.attributes attributes)) in
    sym (get-append-front (attribute_steps place place.attributes (through_required (drop place.attributes attributes)))
    (if list_any (λ attribute. attribute.required) (drop place.attributes attributes) then [] else element_steps place (length attributes) place.particle place.copies (drop place.particle particles))
    code (omega (arith, long, less))
    ∙ attribute_get place place.attributes (drop place.attributes attributes) code d less)

pub found_element : (place : Place) (attributes : List AttributeOf) (particles : List PlainParticle) (code : ℕ) →
    length (through_required (drop place.attributes attributes)) ≤ code → code < length (complex_steps place attributes particles) →
    (code - length (through_required (drop place.attributes attributes)) < element_total place.copies (drop place.particle particles))
    × (slice_get (element_steps place (length attributes) place.particle place.copies (drop place.particle particles)) (code - length (through_required (drop place.attributes attributes)))
    ≡ slice_get (complex_steps place attributes particles) code)
found_element place attributes particles code more less =
    let front : List Step = attribute_steps place place.attributes (through_required (drop place.attributes attributes)) in
    let long : length (attribute_steps place place.attributes (through_required (drop place.attributes attributes))) ≡ length (through_required (drop place.attributes attributes)) = length_attributes place place.attributes (through_required (drop place.attributes attributes)) in
    let all : length (complex_steps place attributes particles) ≡ length (through_required (drop place.attributes attributes))
    + (if list_any (λ attribute. attribute.required) (drop place.attributes attributes) then 0 else element_total place.copies (drop place.particle particles)) = length_complex place attributes particles in
    passed_by (list_any (λ attribute. attribute.required) (drop place.attributes attributes)) (length (through_required (drop place.attributes attributes))) code
    (element_total place.copies (drop place.particle particles)) (element_steps place (length attributes) place.particle place.copies (drop place.particle particles))
    (slice_get (complex_steps place attributes particles) code) more (rw (← all) less)
    (rw (← long) (get-append-past (attribute_steps place place.attributes (through_required (drop place.attributes attributes)))
    (if list_any (λ attribute. attribute.required) (drop place.attributes attributes) then [] else element_steps place (length attributes) place.particle place.copies (drop place.particle particles))
    code (omega (arith, long, more))))
