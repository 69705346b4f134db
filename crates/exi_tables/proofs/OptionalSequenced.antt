-- A sequence of three values, of which the second may be absent.
use Rattle.std.proofs.Common.{◌≡◌, ◌∙◌, ℕ, List, [], ◌∷◌, length, Option, Some, None, IfSome, ap, sym, subst, arith}
use Rattle.std.specs.Borrow.{Bor}
use Rattle.std.specs.Prelude.{slice_get, option_copied}
use Rattle.exi_schema.specs.declared.places.OptionalSequence.{OptionalSequence}
use Rattle.exi_schema.specs.declared.places.Place.{Place}
use Rattle.exi_schema.specs.declared.places.Step.{Step}
use Rattle.exi_schema.specs.declared.places.Step.TheVariants.{End}
use Rattle.exi_schema.specs.Offers.{offers}
use Rattle.exi_schema.specs.Plain.{PlainKind}
use Rattle.exi_schema.specs.Sequences.{IsOptionalSequence}
use Rattle.exi_tables.specs.declared.optional.ChildStep.{ChildStep}
use Rattle.exi_tables.specs.Followed.{IsChildStep, IsOnlyChild, IsOptionalChild, step_of}
use Rattle.exi_tables.proofs.Sequenced.{only_one}

-- ---- one thing or two

only_two : (steps : List Step) (step : Step) → length steps ≡ 2 → slice_get steps 0 ≡ Some step → (other : Step) × (steps ≡ step ∷ other ∷ [])
only_two [] step two is = absurd (omega (arith, two))
only_two (x ∷ []) step two is = absurd (omega (arith, two))
only_two (x ∷ y ∷ []) step two is = let same : Some x ≡ Some step = is in let e : x ≡ step = cc in (y, ap (λ z. z ∷ y ∷ []) e)
only_two (x ∷ y ∷ z ∷ steps) step two is = absurd (omega (arith, two))

pub only_child : (kinds : List PlainKind) (here : Place) (count : ℕ) (it : Option ChildStep) → count ≡ length (offers kinds here) → count ≡ 1 → IfSome it (IsChildStep kinds here 0) → IfSome it (IsOnlyChild kinds here)
only_child kinds here count None whole one is = is
only_child kinds here count (Some it) whole one is = (only_one (offers kinds here) (step_of it) (sym whole ∙ one) (sym is.0), is.1)

pub optional_child : (kinds : List PlainKind) (here : Place) (count : ℕ) (it : Option ChildStep) → count ≡ length (offers kinds here) → count ≡ 2 → IfSome it (IsChildStep kinds here 0) → IfSome it (IsOptionalChild kinds here)
optional_child kinds here count None whole two is = is
optional_child kinds here count (Some it) whole two is =
    let both = only_two (offers kinds here) (step_of it) (sym whole ∙ two) is.0 in (both.0, both.1, is.1)

-- ---- the three

second_of : (steps rest : List Step) (first other last : Step) → steps ≡ first ∷ other ∷ [] → slice_get steps 1 ≡ Some last → rest ≡ last ∷ [] → steps ≡ first ∷ rest
second_of steps rest first other last both second only =
    let same : Some other ≡ Some last = sym (ap (λ (l : List Step). slice_get l 1) both) ∙ second in
    let e : other ≡ last = cc in
    both ∙ ap (λ (x : Step). first ∷ x ∷ []) e ∙ ap (λ (l : List Step). first ∷ l) (sym only)

module _ (kinds : List PlainKind) (here : Place) (first second third : ChildStep) where
  pub is_optional : IsOnlyChild kinds here first → IsOptionalChild kinds first.next second → IsOnlyChild kinds second.next third →
      slice_get (offers kinds first.next) 1 ≡ Some (step_of third) → offers kinds third.next ≡ End ∷ [] →
      IsOptionalSequence kinds here (record { first = first.child; second = second.child; third = third.child })
  is_optional one two three also end =
      record {
        first_kind = first.kind;
        second_kind = second.kind;
        behind_first = first.next;
        behind_second = second.next;
        first_only = one.0;
        first_simple = one.1;
        second_also = second_of (offers kinds first.next) (offers kinds second.next) (step_of second) two.0 (step_of third) two.1 also three.0;
        second_simple = two.2;
        third_only = (third.kind, third.next, three.0, three.1, end);
      }

-- ---- each is found

abbrev pub first_of : (all : OptionalSequence) (kinds : List PlainKind) (here : Place) → IsOptionalSequence kinds here all → ChildStep
first_of all kinds here is = record { child = all.first; kind = is.first_kind; next = is.behind_first }

abbrev pub second_step : (all : OptionalSequence) (kinds : List PlainKind) (here : Place) → IsOptionalSequence kinds here all → ChildStep
second_step all kinds here is = record { child = all.second; kind = is.second_kind; next = is.behind_second }

abbrev pub third_step : (all : OptionalSequence) (kinds : List PlainKind) (here : Place) → IsOptionalSequence kinds here all → ChildStep
third_step all kinds here is = record { child = all.third; kind = is.third_only.0; next = is.third_only.1 }

same_some : {X : Type 0} (o : Option X) (x y : X) → o ≡ Some x → o ≡ Some y → x ≡ y
same_some {X} o x y one other = let both : Some x ≡ Some y = sym one ∙ other in cc

module _ (kinds : List PlainKind) (here : Place) (all : OptionalSequence) (is : IsOptionalSequence kinds here all) where
  pub no_first : (o : Option ChildStep) → o ≡ None → ((it : ChildStep) → IsOnlyChild kinds here it → o ≡ Some it) → ⊥
  no_first o none whole =
      let wrong : None ≡ Some (first_of all kinds here is) = sym none ∙ whole (first_of all kinds here is) (is.first_only, is.first_simple) in absurd cc

  behind_first_is : (first : ChildStep) (o : Option ChildStep) → o ≡ Some first → ((it : ChildStep) → IsOnlyChild kinds here it → o ≡ Some it) → is.behind_first ≡ first.next
  behind_first_is first o found whole =
      ap (λ (s : ChildStep). s.next) (same_some o (first_of all kinds here is) first (whole (first_of all kinds here is) (is.first_only, is.first_simple)) found)

  pub second_is : (first : ChildStep) (o : Option ChildStep) → o ≡ Some first → ((it : ChildStep) → IsOnlyChild kinds here it → o ≡ Some it) → IsOptionalChild kinds first.next (second_step all kinds here is)
  second_is first o found whole =
      subst (λ (p : Place). IsOptionalChild kinds p (second_step all kinds here is)) (behind_first_is first o found whole)
      (step_of (third_step all kinds here is), is.second_also ∙ ap (λ (l : List Step). step_of (second_step all kinds here is) ∷ l) is.third_only.2, is.second_simple)

  pub no_second : (first : ChildStep) (o p : Option ChildStep) → o ≡ Some first → ((it : ChildStep) → IsOnlyChild kinds here it → o ≡ Some it) →
      p ≡ None → ((it : ChildStep) → IsOptionalChild kinds first.next it → p ≡ Some it) → ⊥
  no_second first o p found whole none more =
      let wrong : None ≡ Some (second_step all kinds here is) = sym none ∙ more (second_step all kinds here is) (second_is first o found whole) in absurd cc

  pub no_third : (first second : ChildStep) (o p q : Option ChildStep) → o ≡ Some first → ((it : ChildStep) → IsOnlyChild kinds here it → o ≡ Some it) →
      p ≡ Some second → ((it : ChildStep) → IsOptionalChild kinds first.next it → p ≡ Some it) → q ≡ None → ((it : ChildStep) → IsOnlyChild kinds second.next it → q ≡ Some it) → ⊥
  no_third first second o p q found whole also more none last =
      let place : is.behind_second ≡ second.next =
      ap (λ (s : ChildStep). s.next) (same_some p (second_step all kinds here is) second (more (second_step all kinds here is) (second_is first o found whole)) also) in
      let third : IsOnlyChild kinds second.next (third_step all kinds here is) =
      subst (λ (x : Place). IsOnlyChild kinds x (third_step all kinds here is)) place (is.third_only.2, is.third_only.3) in
      let wrong : None ≡ Some (third_step all kinds here is) = sym none ∙ last (third_step all kinds here is) third in absurd cc

-- ---- what is lent

pub lent_is : (r : Option (Bor OptionalSequence)) (P : OptionalSequence → Type 0) (held : Option OptionalSequence) → option_copied r ≡ held → IfSome held P → IfSome r (λ it. P it.now)
lent_is None P held same is = tt
lent_is (Some it) P held same is = let there : IfSome (Some it.now) P = subst (λ (o : Option OptionalSequence). IfSome o P) (sym same) is in there
