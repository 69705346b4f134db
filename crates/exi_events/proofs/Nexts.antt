-- The place behind a step is one of the same kind.
use Rattle.std.proofs.Common.{◌≡◌, ℕ, zero, suc, ◌+◌, nat_lt, Bool, true, false, if◌then◌else◌, List, [], ◌∷◌, ◌++◌, length, drop, map, Option, Some, None, refl, subst}
use Rattle.std.specs.Prelude.{slice_get, ◌==◌}
use Rattle.std.specs.List.{list_any}
use Rattle.exi_schema.specs.declared.tables.AttributeOf.{AttributeOf}
use Rattle.exi_schema.specs.Plain.{PlainKind, valued, containing, PlainParticle}
use Rattle.exi_schema.specs.declared.tables.Member.{Member}
use Rattle.exi_schema.specs.declared.places.Place.{Place}
use Rattle.exi_schema.specs.declared.places.Step.{Step}
use Rattle.exi_schema.specs.declared.places.Step.TheVariants.{Attribute, Element, End, Characters}
use Rattle.exi_schema.specs.Offers.{through_required, attribute_steps, element_step, element_steps, behind_copy, leaves_room, offers_of, offers}
use Rattle.exi_schema.proofs.Fitting.{by_flag}

abbrev pub StaysIn : ℕ → Step → Type 0
StaysIn k (Attribute name kind next) = next.kind ≡ k
StaysIn k (Element name kind next standing past_limit) = next.kind ≡ k
StaysIn k End = Unit {0}
StaysIn k (Characters next) = next.kind ≡ k

abbrev pub AllStay : ℕ → List Step → Type 0
AllStay k [] = Unit {0}
AllStay k (step ∷ steps) = StaysIn k step × AllStay k steps

pub stay_append : (k : ℕ) (xs ys : List Step) → AllStay k xs → AllStay k ys → AllStay k (xs ++ ys)
stay_append k [] ys front back = back
stay_append k (x ∷ xs) ys front back = (front.0, stay_append k xs ys front.1 back)

pub stay_get : (k : ℕ) (steps : List Step) (i : ℕ) (step : Step) → AllStay k steps → slice_get steps i ≡ Some step → StaysIn k step
stay_get k [] i step all is = absurd cc
stay_get k (x ∷ xs) zero step all is =
    let same : Some x ≡ Some step = is in let e : x ≡ step = cc in let P : Step → Type 0 = λ y. StaysIn k y in subst P e all.0
stay_get k (x ∷ xs) (suc i) step all is = stay_get k xs i step all.1 is

pub attributes_stay : (here : Place) (at : ℕ) (attributes : List AttributeOf) → AllStay here.kind (attribute_steps here at attributes)
attributes_stay here at [] = tt {0}
attributes_stay here at (attribute ∷ attributes) = (refl, attributes_stay here (at + 1) attributes)

pub kind_by : (b : Bool) (k : ℕ) (p q : Place) → p.kind ≡ k → q.kind ≡ k → (if b then p else q).kind ≡ k
kind_by true k p q one two = one
kind_by false k p q one two = two

pub behind_kind : (k attributes at copies : ℕ) (most : Option ℕ) → (behind_copy k attributes at copies most).kind ≡ k
behind_kind k attributes at copies most = kind_by (leaves_room most (copies + 1)) k _ _ refl refl

pub members_stay : (here : Place) (attributes at copies : ℕ) (particle : PlainParticle) (members : List Member) → AllStay here.kind (map (element_step here attributes at copies particle) members)
members_stay here attributes at copies particle [] = tt {0}
members_stay here attributes at copies particle (member ∷ members) = (
  kind_by (nat_lt copies particle.profile) here.kind (behind_copy here.kind attributes at copies particle.most) here (behind_kind here.kind attributes at copies particle.most) refl,
  members_stay here attributes at copies particle members,
)

pub elements_stay : (here : Place) (attributes at copies : ℕ) (particles : List PlainParticle) → AllStay here.kind (element_steps here attributes at copies particles)
elements_stay here attributes at copies [] = (tt {0}, tt {0})
elements_stay here attributes at copies (particle ∷ particles) =
    stay_append here.kind _ _ (members_stay here attributes at copies particle particle.members)
    (by_flag (nat_lt copies particle.least) (AllStay here.kind) (tt {0}) (elements_stay here attributes (at + 1) 0 particles))

pub simple_stays : (b : Bool) (k : ℕ) (next : Place) → next.kind ≡ k → StaysIn k (if b then Characters next else End)
simple_stays true k next is = is
simple_stays false k next is = tt {0}

pub offers_stay : (here : Place) (o : Option PlainKind) → AllStay here.kind (offers_of here o)
offers_stay here None = tt {0}
offers_stay here (Some (valued datatype)) = (simple_stays (here.particle == 0) here.kind _ refl, tt {0})
offers_stay here (Some (containing attributes particles)) =
    stay_append here.kind _ _ (attributes_stay here here.attributes (through_required (drop here.attributes attributes)))
    (by_flag (list_any (λ attribute. attribute.required) (drop here.attributes attributes)) (AllStay here.kind) (tt {0})
    (elements_stay here (length attributes) here.particle here.copies (drop here.particle particles)))

pub next_stays : (kinds : List PlainKind) (here : Place) (i : ℕ) (step : Step) → slice_get (offers kinds here) i ≡ Some step → StaysIn here.kind step
next_stays kinds here i step is = stay_get here.kind (offers kinds here) i step (offers_stay here (slice_get kinds here.kind)) is
