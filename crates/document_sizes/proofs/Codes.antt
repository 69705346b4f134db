-- A code of a schema of narrow codes has so many bits at most.
use Rattle.std.proofs.Common.{◌≡◌, ℕ, zero, suc, ◌+◌, ◌^◌, ◌<◌, ◌≤◌, nat_lt, Bool, true, false, if◌then◌else◌, List, [], ◌∷◌, length, drop, Option, Some, None, refl, ap, subst, slice_get, arith}
use Rattle.std.proofs.lemmas.Bool.{ltb-true}
use Rattle.std.specs.List.{list_any, list_all}
use Rattle.exi_spec.proofs.BitLaws.{length-number_bits}
use Rattle.exi_schema.specs.Counts.{element_total}
use Rattle.exi_schema.specs.declared.tables.Datatype.{Datatype}
use Rattle.exi_schema.specs.declared.places.Place.{Place}
use Rattle.exi_schema.specs.declared.places.Step.{Step}
use Rattle.exi_schema.specs.Offers.{offers_of, offers}
use Rattle.exi_schema.specs.Plain.{PlainKind, valued, containing, PlainParticle}
use Rattle.exi_schema.specs.Steps.{datatype_of, simple_at}
use Rattle.exi_schema.proofs.Conditions.{and-l, and-r, all_get}
use Rattle.exi_schema.proofs.Walks.{length_complex, through_short}
use Rattle.exi_documents.specs.Documents.{SpellsStep}
use Rattle.document_sizes.specs.Sizes.{most_elements, most_offers, is_narrow_datatype, is_narrow_content, is_narrow}

-- ---- how much is offered

passed_total : (copies : ℕ) (particle : PlainParticle) (particles : List PlainParticle) → element_total copies (particle ∷ particles) ≤ length particle.members + element_total 0 particles
passed_total copies particle particles =
    elim (nat_lt copies particle.least) as (λ b. length particle.members + (if b then 0 else element_total 0 particles) ≤ length particle.members + element_total 0 particles)
    [ true ↦ omega arith | false ↦ omega arith ]

elements_few : (copies at : ℕ) (particles : List PlainParticle) → element_total copies (drop at particles) ≤ most_elements particles
elements_few copies zero [] = omega arith
elements_few copies (suc at) [] = omega arith
elements_few copies zero (particle ∷ particles) = omega (arith, passed_total copies particle particles)
elements_few copies (suc at) (particle ∷ particles) = omega (arith, elements_few copies at particles)

drop_few : {X : Type 0} (at : ℕ) (xs : List X) → length (drop at xs) ≤ length xs
drop_few zero xs = omega arith
drop_few (suc at) [] = omega arith
drop_few (suc at) (x ∷ xs) = omega (arith, drop_few at xs)

none_or : (b : Bool) (n m : ℕ) → n ≤ m → (if b then 0 else n) ≤ m
none_or true n m less = omega arith
none_or false n m less = less

offers_few : (here : Place) (o : Option PlainKind) (w : ℕ) → ((kind : PlainKind) → o ≡ Some kind → most_offers kind < 2 ^ w) → 1 ≤ 2 ^ w → length (offers_of here o) + 1 ≤ 2 ^ w
offers_few here None w narrow one = omega (arith, one)
offers_few here (Some (valued datatype)) w narrow one = let less : 1 < 2 ^ w = narrow (valued datatype) refl in omega (arith, less)
offers_few here (Some (containing attributes particles)) w narrow one =
    let less : length attributes + most_elements particles < 2 ^ w = narrow (containing attributes particles) refl in
    let left = drop here.attributes attributes in
    let elements = none_or (list_any (λ attribute. attribute.required) left) (element_total here.copies (drop here.particle particles)) (most_elements particles) (elements_few here.copies here.particle particles) in
    omega (arith, less, length_complex here attributes particles, through_short left, drop_few here.attributes attributes, elements)

-- ---- at a place

module _ (w : ℕ) (kinds : List PlainKind) (narrow : list_all (is_narrow w) kinds ≡ true) where
  narrow_at : (i : ℕ) (kind : PlainKind) → slice_get kinds i ≡ Some kind → is_narrow w kind ≡ true
  narrow_at i kind is = all_get (is_narrow w) kinds i kind narrow is

  pub offered_few : (here : Place) → 1 ≤ 2 ^ w → length (offers kinds here) + 1 ≤ 2 ^ w
  offered_few here one =
      offers_few here (slice_get kinds here.kind) w (λ kind is. ltb-true (most_offers kind) (2 ^ w) (and-l _ (is_narrow_content w kind) (narrow_at here.kind kind is))) one

  pub step_short : (here : Place) (step : Step) (bits : List Bool) → 1 ≤ 2 ^ w → SpellsStep kinds here step bits → length bits ≤ w
  step_short here step bits one s =
      let width = s.is_width.least w (offered_few here one) in
      omega (arith, width, ap length s.spelled.spelled, length-number_bits s.width s.code)

  datatype_by : (i : ℕ) (o : Option PlainKind) (datatype : Datatype) → slice_get kinds i ≡ o → datatype_of o ≡ Some datatype → is_narrow_datatype w datatype ≡ true
  datatype_by i None datatype at is = absurd cc
  datatype_by i (Some (containing attributes particles)) datatype at is = absurd cc
  datatype_by i (Some (valued other)) datatype at is =
      let same : other ≡ datatype = cc in
      subst (λ (d : Datatype). is_narrow_datatype w d ≡ true) same (and-r _ (is_narrow_content w (valued other)) (narrow_at i (valued other) at))

  pub datatype_narrow : (kind : ℕ) (datatype : Datatype) → simple_at kinds kind ≡ Some datatype → is_narrow_datatype w datatype ≡ true
  datatype_narrow kind datatype is = datatype_by kind (slice_get kinds kind) datatype refl is
