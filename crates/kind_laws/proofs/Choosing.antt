-- The attributes that an element still may have, and the next one.
use Rattle.std.proofs.Common.{◌≡◌, ℕ, suc, ◌+◌, ◌||◌, Bool, false, if◌then◌else◌, List, [], ◌∷◌, drop, Some, refl, sym, ap, subst, ◌∙◌, arith, slice_get, inl, inr}
use Rattle.std.specs.List.{list_any}
use Rattle.exi_schema.specs.declared.tables.AttributeOf.{AttributeOf}
use Rattle.exi_schema.specs.declared.places.Place.{Place}
use Rattle.exi_schema.specs.Offers.{through_required, attribute_step, attribute_steps}
use Rattle.kind_laws.specs.Kinds.{AreChosen}
use Rattle.kind_laws.proofs.Lists.{nil_cons, same_head, same_tail}

-- an attribute has to be there
abbrev pub any_required : List AttributeOf → Bool
any_required attributes = list_any (λ attribute. attribute.required) attributes

pub none_required : (attributes : List AttributeOf) → AreChosen attributes [] → any_required attributes ≡ false
none_required [] h = refl
none_required (attribute ∷ attributes) (inl h) = ap (λ (b : Bool). b || any_required attributes) h.0 ∙ none_required attributes h.1
none_required (attribute ∷ attributes) (inr h) = absurd (nil_cons attribute h.0 h.1)

-- the code of the next one, its number in the kind, and what may stand behind it
pub record Next (here : Place) (at : ℕ) (attributes : List AttributeOf) (chosen : AttributeOf) (others : List AttributeOf) : Type 0 where
  pub code : ℕ
  pub number : ℕ
  pub is_number : number ≡ at + code
  pub offered : slice_get (attribute_steps here at (through_required attributes)) code ≡ Some (attribute_step here number chosen)
  pub are_chosen : AreChosen (drop (suc code) attributes) others

pub next_attribute : (here : Place) (at : ℕ) (attributes : List AttributeOf) (chosen : AttributeOf) (others : List AttributeOf) → AreChosen attributes (chosen ∷ others) → Next here at attributes chosen others
next_attribute here at [] chosen others h = absurd (nil_cons chosen others (sym h))
next_attribute here at (attribute ∷ attributes) chosen others (inl h) =
    let rest = next_attribute here (at + 1) attributes chosen others h.1 in
    let open_still : through_required (attribute ∷ attributes) ≡ attribute ∷ through_required attributes = ap (λ (b : Bool). attribute ∷ (if b then [] else through_required attributes)) h.0 in
    record {
      code = suc rest.code;
      number = rest.number;
      is_number = omega (arith, rest.is_number);
      offered = ap (λ (l : List AttributeOf). slice_get (attribute_steps here at l) (suc rest.code)) open_still ∙ rest.offered;
      are_chosen = rest.are_chosen;
    }
next_attribute here at (attribute ∷ attributes) chosen others (inr h) =
    let same : chosen ≡ attribute = same_head chosen attribute others h.0 h.1 in
    let left : others ≡ h.0 = same_tail chosen attribute others h.0 h.1 in
    record {
      code = 0;
      number = at;
      is_number = omega arith;
      offered = ap (λ (a : AttributeOf). Some (attribute_step here at a)) (sym same);
      are_chosen = subst (λ (l : List AttributeOf). AreChosen attributes l) (sym left) h.2;
    }
