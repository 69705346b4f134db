-- Behind the last child.
use Rattle.std.proofs.Common.{◌≡◌, ℕ, List, [], ◌∷◌, length, Option, Some, None, arith, refl, sym, subst, ◌∙◌, Result, Ok, Err, IfOk}
use Rattle.std.proofs.lemmas.List.{drop_all}
use Rattle.exi_schema.specs.declared.places.Place.{Place}
use Rattle.exi_schema.specs.declared.places.Step.TheVariants as step
use Rattle.exi_schema.specs.declared.tables.AttributeOf.{AttributeOf}
use Rattle.exi_events.specs.Documents.{element}
use Rattle.exi_events.specs.Trees.{Event, Trees}
use Rattle.exi_schema.specs.Plain.{PlainKind, PlainParticle}
use Rattle.message_parts.specs.Contents.{Inside as Contents, Of, Holding, Given, given, perhaps_given, Part, one, perhaps, each, perhaps_one, attributes_of, trees_of, holding_with, perhaps_trees, each_trees, choice_trees, told_attributes, told_trees, told_given, told_parts, told_one, told_perhaps, told_each, told_choice, told_inside}
use Rattle.message_parts.specs.Reading.{Frame, Seen, Leaves, Reads, IsChild}
use Rattle.message_parts.proofs.Particles.{first_is}

-- trees and the parts that they are made of are told alike
perhaps_told : (name : ℕ) (o : Option Contents) (more : Trees) (told : List Event) → told_trees (perhaps_trees name o more) told ≡ told_trees more (told_perhaps name o told)
perhaps_told name None more told = refl
perhaps_told name (Some (Of v)) more told = refl
perhaps_told name (Some (Holding attributes children)) more told = refl

each_told : (name : ℕ) (insides : List Contents) (more : Trees) (told : List Event) → told_trees (each_trees name insides more) told ≡ told_trees more (told_each name insides told)
each_told name [] more told = refl
each_told name (Of v ∷ insides) more told = each_told name insides more (told_one name (Of v) told)
each_told name (Holding attributes children ∷ insides) more told = each_told name insides more (told_one name (Holding attributes children) told)

choice_told : (o : Option (ℕ × Contents)) (more : Trees) (told : List Event) → told_trees (choice_trees o more) told ≡ told_trees more (told_choice o told)
choice_told None more told = refl
choice_told (Some (name, Of v)) more told = refl
choice_told (Some (name, Holding attributes children)) more told = refl

pub parts_told : (parts : List Part) (told : List Event) → told_trees (trees_of parts) told ≡ told_parts parts told
parts_told [] told = refl
parts_told (one name (Of v) ∷ parts) told = parts_told parts (told_one name (Of v) told)
parts_told (one name (Holding attributes children) ∷ parts) told = parts_told parts (told_one name (Holding attributes children) told)
parts_told (perhaps name o ∷ parts) told = perhaps_told name o (trees_of parts) told ∙ parts_told parts (told_perhaps name o told)
parts_told (each name insides ∷ parts) told = each_told name insides (trees_of parts) told ∙ parts_told parts (told_each name insides told)
parts_told (perhaps_one o ∷ parts) told = choice_told o (trees_of parts) told ∙ parts_told parts (told_choice o told)

pub given_told : (gs : List Given) (told : List Event) → told_attributes (attributes_of gs) told ≡ told_given gs told
given_told [] told = refl
given_told (given name value ∷ gs) told = given_told gs _
given_told (perhaps_given name None ∷ gs) told = given_told gs told
given_told (perhaps_given name (Some value) ∷ gs) told = given_told gs _

ended : (ks : List PlainKind) (F : Frame) (here : Place) (n at : ℕ) (told : List Event) (d : Seen) (o : Option ℕ) → IsChild ks F here n at 0 [] told d o → Leaves ks F told d
ended ks F here n at told d None child = record { goes = child.1; standing = child.2 }
ended ks F here n at told d (Some m) child =
    let wrong = first_is step.End (element m child.1 child.2) child.0 child.3 in absurd cc

pub leaves_all : (ks : List PlainKind) (F : Frame) (attributes : List AttributeOf) (declared : List PlainParticle) (told : List Event) (d : Seen) →
    Reads ks F attributes declared (length declared) told d → Leaves ks F told d
leaves_all ks F attributes declared told d h =
    let P : List PlainParticle → Type 0 = λ ps. IsChild ks F h.here (length attributes) (length declared) 0 ps told d d.child in
    ended ks F h.here (length attributes) (length declared) told d d.child (subst P (drop_all (length declared) declared (omega arith)) h.child)

pub all_read : {V E : Type 0} (r : Result V E) (gs : V → List Given) (parts : V → List Part) (ks : List PlainKind) (F : Frame) (attributes : List AttributeOf) (declared : List PlainParticle) (told : List Event) (d : Seen) →
    IfOk r (λ v. Reads ks F attributes declared (length declared) (told_parts (parts v) (told_given (gs v) told)) d) → IfOk r (λ v. Leaves ks F (told_inside (holding_with (gs v) (parts v)) told) d)
all_read {V} {E} (Ok v) gs parts ks F attributes declared told d h =
    subst (λ (t : List Event). Leaves ks F t d) (sym (parts_told (parts v) (told_attributes (attributes_of (gs v)) told)))
    (subst (λ (t : List Event). Leaves ks F (told_parts (parts v) t) d) (sym (given_told (gs v) told)) (leaves_all ks F attributes declared (told_parts (parts v) (told_given (gs v) told)) d h))
all_read {V} {E} (Err e) gs parts ks F attributes declared told d h = tt
