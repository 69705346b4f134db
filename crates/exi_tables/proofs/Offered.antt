-- What the conditions on a schema give of the offers at each place.
use Rattle.std.proofs.Common.{◌≡◌, ℕ, ◌≤◌, List, length, Option, Some, subst, sym, inl, inr, arith}
use Rattle.std.specs.Prelude.{slice_get}
use Rattle.std.proofs.lemmas.Option.{slice_get_cases}
use Rattle.exi_schema.specs.Schemas.{PlainSchema}
use Rattle.exi_schema.specs.Plain.{PlainKind, valued, containing}
use Rattle.exi_schema.specs.declared.places.Place.{Place}
use Rattle.exi_schema.specs.declared.places.Step.{Step}
use Rattle.exi_schema.specs.Offers.{offers, offers_in, offers_of, IsPlace, IsPlaceIn, IsPlaceOf}
use Rattle.exi_schema.specs.Steps.{IsStep}
use Rattle.exi_schema.proofs.Conditions.{complex_in, few_steps}
use Rattle.exi_schema.proofs.Fitting.{EachStep, each_get, each_complex, simple_fits}

-- the declaration of a place
pub declaration_at : (kinds : List PlainKind) (place : Place) → IsPlace kinds place → (d : PlainKind) × (slice_get kinds place.kind ≡ Some d) × IsPlaceIn place d
declaration_at kinds place at =
    elim (slice_get_cases kinds place.kind).1 [
      | inl is ↦ let P : Option PlainKind → Type 0 = λ o. IsPlaceOf place o in (is.0, is.2, subst P is.2 at)
      | inr past ↦ let P : Option PlainKind → Type 0 = λ o. IsPlaceOf place o in let none : ⊥ = subst P past.1 at in absurd none
    ]

pub few_in : (s : PlainSchema) (place : Place) (d : PlainKind) → slice_get s.kinds place.kind ≡ Some d → IsPlaceIn place d → length (offers_in place d) ≤ 65535
few_in s place (valued datatype) there at = omega arith
few_in s place (containing attributes particles) there at =
    few_steps (length s.names) s.kinds attributes particles place (complex_in s place.kind attributes particles there) at

pub few_offers : (s : PlainSchema) (place : Place) → IsPlace s.kinds place → length (offers s.kinds place) ≤ 65535
few_offers s place at =
    let found = declaration_at s.kinds place at in
    let P : Option PlainKind → Type 0 = λ o. length (offers_of place o) ≤ 65535 in
    subst P (sym found.1) (few_in s place found.0 found.1 found.2)

pub each_in : (s : PlainSchema) (place : Place) (d : PlainKind) → slice_get s.kinds place.kind ≡ Some d → IsPlaceIn place d →
    EachStep s.kinds (length s.names) place.kind (offers_in place d)
each_in s place (valued datatype) there at = (simple_fits s.kinds (length s.names) place datatype there at, tt)
each_in s place (containing attributes particles) there at =
    each_complex s.kinds (length s.names) place attributes particles there at (complex_in s place.kind attributes particles there)

pub offer_fits : (s : PlainSchema) (place : Place) (code : ℕ) (step : Step) → IsPlace s.kinds place → Some step ≡ slice_get (offers s.kinds place) code →
    IsStep s.kinds (length s.names) place.kind step
offer_fits s place code step at is =
    let found = declaration_at s.kinds place at in
    let P : Option PlainKind → Type 0 = λ o. EachStep s.kinds (length s.names) place.kind (offers_of place o) in
    each_get s.kinds (length s.names) place.kind (offers s.kinds place) code step (subst P (sym found.1) (each_in s place found.0 found.1 found.2)) is
