-- The places of the negotiation's schema, kind by kind.
use Rattle.std.proofs.Common.{◌≡◌, ℕ, zero, suc, ◌+◌, ◌^◌, ◌<◌, ◌≤◌, List, length, drop, Option, Some, None, IfSome, slice_get, refl, sym, ap, ap₂, subst, ◌∙◌, arith}
use Rattle.exi_schema.specs.Plain.{PlainKind, valued, containing}
use Rattle.exi_schema.specs.Steps.{IsStep}
use Rattle.exi_schema.specs.declared.places.Offer.{Offer}
use Rattle.exi_schema.proofs.Conditions.{complex_in}
use Rattle.exi_schema.proofs.Fitting.{EachStep, each_get, each_complex, simple_fits}
use Rattle.exi_schema.specs.declared.places.Place.{Place}
use Rattle.exi_schema.specs.declared.places.Step.{Step}
use Rattle.exi_schema.specs.declared.places.Step.TheVariants.{End}
use Rattle.exi_schema.specs.Offers.{IsPlace, IsPlaceOf, IsWidth, FitsParticles, offers, offers_of, simple_step}
use Rattle.app_schema.specs.Declarations.{negotiation_schema, kinds, protocol_particles, request_particles, response_particles}
use Rattle.app_schema.specs.Rows.{at}

abbrev here : ℕ → ℕ → ℕ → ℕ → Place
here kind particle copies attributes = record { kind = kind; particle = particle; copies = copies; attributes = attributes }

no_copies : (p c : ℕ) → p ≤ 5 → FitsParticles c (drop p protocol_particles) → c ≡ 0
no_copies zero c few fits = omega (arith, fits)
no_copies (suc zero) c few fits = omega (arith, fits)
no_copies (suc (suc zero)) c few fits = omega (arith, fits)
no_copies (suc (suc (suc zero))) c few fits = omega (arith, fits)
no_copies (suc (suc (suc (suc zero)))) c few fits = omega (arith, fits)
no_copies (suc (suc (suc (suc (suc zero))))) c few fits = fits
no_copies (suc (suc (suc (suc (suc (suc n)))))) c few fits = absurd (omega (arith, few))

one_place : (kind p c a : ℕ) → c ≡ 0 → a ≡ 0 → offers kinds (at kind p 0) ≡ offers kinds (here kind p c a)
one_place kind p c a copies attributes = ap₂ (λ (m : ℕ) (n : ℕ). offers kinds (here kind p m n)) (sym copies) (sym attributes)

-- a place of this kind, where none of its particles has copies before it
place_of : (kind : ℕ) → ((p c a : ℕ) → IsPlace kinds (here kind p c a) → (c ≡ 0) × (a ≡ 0)) → (place : Place) → place.kind ≡ kind → IsPlace kinds place →
    offers kinds (at place.kind place.particle 0) ≡ offers kinds place
place_of kind none place is there =
    subst (λ (k : ℕ). IsPlace kinds (here k place.particle place.copies place.attributes) → offers kinds (at k place.particle 0) ≡ offers kinds (here k place.particle place.copies place.attributes)) (sym is)
    (λ at_kind. let zeros = none place.particle place.copies place.attributes at_kind in one_place kind place.particle place.copies place.attributes zeros.0 zeros.1) there

response_copies : (p c : ℕ) → p ≤ 2 → FitsParticles c (drop p response_particles) → c ≡ 0
response_copies zero c few fits = omega (arith, fits)
response_copies (suc zero) c few fits = omega (arith, fits)
response_copies (suc (suc zero)) c few fits = fits
response_copies (suc (suc (suc n))) c few fits = absurd (omega (arith, few))

pub protocol_place : (place : Place) → place.kind ≡ 5 → IsPlace kinds place → offers kinds (at 5 place.particle 0) ≡ offers kinds place
protocol_place place is there = ap (λ k. offers kinds (at k place.particle 0)) (sym is) ∙ place_of 5 (λ p c a h. (no_copies p c h.1 h.2, omega (arith, h.0))) place is there

pub response_place : (place : Place) → place.kind ≡ 7 → IsPlace kinds place → offers kinds (at 7 place.particle 0) ≡ offers kinds place
response_place place is there = ap (λ k. offers kinds (at k place.particle 0)) (sym is) ∙ place_of 7 (λ p c a h. (response_copies p c h.1 h.2, omega (arith, h.0))) place is there

-- behind the kinds of values, of a protocol and of a request is that of a response
last_kind : (k p c a : ℕ) → 5 ≤ k → (k ≡ 5 → ⊥) → (k ≡ 6 → ⊥) → IsPlace kinds (here k p c a) → k ≡ 7
last_kind (suc (suc (suc (suc (suc zero))))) p c a low one two there = absurd (one refl)
last_kind (suc (suc (suc (suc (suc (suc zero)))))) p c a low one two there = absurd (two refl)
last_kind (suc (suc (suc (suc (suc (suc (suc zero))))))) p c a low one two there = refl
last_kind (suc (suc (suc (suc (suc (suc (suc (suc n)))))))) p c a low one two there = absurd there
last_kind zero p c a low one two there = absurd (omega (arith, low))
last_kind (suc zero) p c a low one two there = absurd (omega (arith, low))
last_kind (suc (suc zero)) p c a low one two there = absurd (omega (arith, low))
last_kind (suc (suc (suc zero))) p c a low one two there = absurd (omega (arith, low))
last_kind (suc (suc (suc (suc zero)))) p c a low one two there = absurd (omega (arith, low))

pub is_response : (place : Place) → 5 ≤ place.kind → (place.kind ≡ 5 → ⊥) → (place.kind ≡ 6 → ⊥) → IsPlace kinds place → place.kind ≡ 7
is_response place low one two there = last_kind place.kind place.particle place.copies place.attributes low one two there

-- ---- the width of a code

least_of_one : (w : ℕ) → 1 + 1 ≤ 2 ^ w → 1 ≤ w
least_of_one zero enough = absurd (omega (arith, enough))
least_of_one (suc w) enough = omega arith

pub width_of_one : IsWidth 1 1
width_of_one = record { enough = omega arith; least = least_of_one }

least_of_two : (w : ℕ) → 2 + 1 ≤ 2 ^ w → 2 ≤ w
least_of_two zero enough = absurd (omega (arith, enough))
least_of_two (suc zero) enough = absurd (omega (arith, enough))
least_of_two (suc (suc w)) enough = omega arith

pub width_of_two : IsWidth 2 2
width_of_two = record { enough = omega arith; least = least_of_two }

-- ---- what is offered is of the schema

each_in : (place : Place) (o : Option PlainKind) → slice_get kinds place.kind ≡ o → IsPlaceOf place o → EachStep kinds (length negotiation_schema.names) place.kind (offers_of place o)
each_in place None is there = absurd there
each_in place (Some (valued datatype)) is there = (simple_fits kinds (length negotiation_schema.names) place datatype is there, tt)
each_in place (Some (containing attributes particles)) is there =
    each_complex kinds (length negotiation_schema.names) place attributes particles is there (complex_in negotiation_schema place.kind attributes particles is)

pub offer_fits : (place : Place) (code : ℕ) (step : Step) → IsPlace kinds place → Some step ≡ slice_get (offers kinds place) code → IsStep kinds (length negotiation_schema.names) place.kind step
offer_fits place code step there is =
    each_get kinds (length negotiation_schema.names) place.kind (offers kinds place) code step (each_in place (slice_get kinds place.kind) refl there) is

pub found_fits : (place : Place) (o : Option Offer) → IsPlace kinds place → IfSome o (λ offer. slice_get (offers kinds place) offer.code ≡ Some offer.step) →
    IfSome o (λ offer. IsStep kinds (length negotiation_schema.names) place.kind offer.step)
found_fits place None there found = tt
found_fits place (Some offer) there found = offer_fits place offer.code offer.step there (sym found)

pub found_few : (place : Place) (o : Option Offer) → length (offers kinds place) ≤ 2 → IfSome o (λ _. length (offers kinds place) < 2 ^ 16)
found_few place None few = tt
found_few place (Some offer) few = omega (arith, few)

-- ---- a row of one step or two
