-- A sequence of which the second child may be absent, put at once.
use Rattle.std.proofs.Common.{◌≡◌, ℕ, Bool, List, [], ◌∷◌, ◌++◌, length, Option, Some, None, refl, sym, ap, subst, ◌∙◌, append_assoc}
use Rattle.std.specs.Prelude.{slice_get}
use Rattle.exi_spec.specs.Bits.{number_bits}
use Rattle.exi_schema.specs.declared.places.OptionalSequence.{OptionalSequence}
use Rattle.exi_schema.specs.declared.places.Place.{Place}
use Rattle.exi_schema.specs.declared.places.Step.{Step}
use Rattle.exi_schema.specs.declared.places.Step.TheVariants as step
use Rattle.exi_schema.specs.Offers.{offers, IsWidth}
use Rattle.exi_schema.specs.Schemas.{PlainSchema}
use Rattle.exi_schema.specs.Sequences.{IsOptionalSequence}
use Rattle.exi_writing.specs.Documents.{SpellsStep, element, first}
use Rattle.exi_writing.specs.Grammar.{Opened, opened, Inside, around, stands}
use Rattle.exi_writing.specs.Values.{Entries}
use Rattle.exi_events.specs.Child.{IsNamed, RestBits, WritesOptional, PutsRest, PutsOptional, child_bits, inside_bits}
use Rattle.exi_events.specs.declared.child.NamedValue.{NamedValue}
use Rattle.exi_events.specs.declared.child.OptionalChildren.{OptionalChildren}
use Rattle.exi_events.specs.Writer.{Draft, Adds}
use Rattle.exi_events.proofs.Children.{named_put}
use Rattle.exi_events.proofs.Offering.{spells_code, element_moves, end_moves}
use Rattle.exi_events.proofs.OptionalTaken.{two_wide}
use Rattle.exi_events.proofs.Simple.{one_code}

-- ---- behind the first child

module _ (s : PlainSchema) (name : ℕ) (here : Place) (above : List Opened) (entries : Entries) (children : OptionalSequence) (q : IsOptionalSequence s.kinds here children) where
  abbrev third_kind : ℕ
  third_kind = q.third_only.0

  abbrev behind_third : Place
  behind_third = q.third_only.1

  abbrev second_step : Step
  second_step = element children.second.name q.second_kind q.behind_second

  abbrev third_step : Step
  third_step = element children.third.name third_kind behind_third

  both_offered : offers s.kinds q.behind_first ≡ second_step ∷ third_step ∷ []
  both_offered = q.second_also ∙ ap (λ (l : List Step). second_step ∷ l) q.third_only.2

  of_two : (code : ℕ) (st : Step) → slice_get (second_step ∷ third_step ∷ []) code ≡ Some st → SpellsStep s.kinds q.behind_first st (number_bits 2 code)
  of_two code st at =
      spells_code s.kinds q.behind_first code 2 st (subst (λ (steps : List Step). IsWidth (length steps) 2) (sym both_offered) two_wide)
      (ap (λ (steps : List Step). slice_get steps code) both_offered ∙ at)

  rest_put : (old new : Draft) (second : Option NamedValue) (third : NamedValue) (bits : List Bool) → old.state ≡ stands (Inside (opened name q.behind_first) above) entries → new.state ≡ stands (around above) entries →
      Adds old new (bits ++ number_bits 1 0) → RestBits IsNamed children second third bits → PutsRest s old new second third
  rest_put old new None third bits was is adds w =
      let last : Draft = record { room = new.room; bits = old.bits ++ (number_bits 2 1 ++ inside_bits w.0); state = stands (Inside (opened name behind_third) above) entries } in
      let all : new.bits ≡ last.bits ++ number_bits 1 0 =
      adds.written
      ∙ ap (λ (l : List Bool). old.bits ++ (l ++ number_bits 1 0)) w.2
      ∙ sym (append_assoc old.bits (number_bits 2 1 ++ inside_bits w.0) (number_bits 1 0)) in (
        last,
        named_put s old last (opened name q.behind_first) above behind_third entries children.third third (number_bits 2 1) w.0 third_kind was refl (record { written = refl; room = adds.room }) (of_two 1 third_step refl) q.third_only.3 w.1,
        (
          number_bits 1 0,
          rw is (end_moves s (opened name behind_third) above entries (number_bits 1 0) (one_code s.kinds behind_third step.End q.third_only.4)),
          record { written = all; room = refl },
        ),
      )
  rest_put old new (Some second) third bits was is adds w =
      let front = number_bits 2 0 ++ inside_bits w.0 in
      let behind : Draft = record { room = new.room; bits = old.bits ++ front; state = stands (Inside (opened name q.behind_second) above) entries } in
      let last : Draft = record { room = new.room; bits = behind.bits ++ child_bits w.1; state = stands (Inside (opened name behind_third) above) entries } in
      let all : new.bits ≡ last.bits ++ number_bits 1 0 =
      adds.written
      ∙ ap (λ (l : List Bool). old.bits ++ (l ++ number_bits 1 0)) (w.4 ∙ sym (append_assoc (number_bits 2 0) (inside_bits w.0) (child_bits w.1)))
      ∙ ap (λ (l : List Bool). old.bits ++ l) (append_assoc front (child_bits w.1) (number_bits 1 0))
      ∙ sym (append_assoc behind.bits (child_bits w.1) (number_bits 1 0) ∙ append_assoc old.bits front (child_bits w.1 ++ number_bits 1 0)) in (
        behind,
        last,
        named_put s old behind (opened name q.behind_first) above q.behind_second entries children.second second (number_bits 2 0) w.0 q.second_kind was refl (record { written = refl; room = adds.room }) (of_two 0 second_step refl) q.second_simple w.2,
        named_put s behind last (opened name q.behind_second) above behind_third entries children.third third (number_bits 1 0) w.1 third_kind refl refl (record { written = refl; room = refl }) (one_code s.kinds q.behind_second third_step q.third_only.2) q.third_only.3 w.3,
        (
          number_bits 1 0,
          rw is (end_moves s (opened name behind_third) above entries (number_bits 1 0) (one_code s.kinds behind_third step.End q.third_only.4)),
          record { written = all; room = refl },
        ),
      )

-- ---- the whole element

pub optional_put : (s : PlainSchema) (old new : Draft) (top : Opened) (above : List Opened) (next : Place) (entries : Entries) (name kind : ℕ) (values : OptionalChildren) (code inside : List Bool) →
    old.state ≡ stands (Inside top above) entries → new.state ≡ stands (Inside (opened top.name next) above) entries → Adds old new (code ++ inside) →
    SpellsStep s.kinds top.place (element name kind next) code → WritesOptional s.kinds kind values inside → PutsOptional s old new name values
optional_put s old new top above next entries name kind values code inside was is adds starts w =
    let q = w.sequence in
    let around_it = opened top.name next ∷ above in
    let started : Draft = record { room = new.room; bits = old.bits ++ code; state = stands (Inside (opened name (first kind)) around_it) entries } in
    let one : Draft = record { room = new.room; bits = started.bits ++ child_bits w.first_bits; state = stands (Inside (opened name q.behind_first) around_it) entries } in
    let tail = w.rest_bits ++ number_bits 1 0 in
    let all : new.bits ≡ one.bits ++ tail =
    adds.written
    ∙ ap (λ (l : List Bool). old.bits ++ (code ++ l)) w.bits_are
    ∙ sym (append_assoc started.bits (child_bits w.first_bits) tail ∙ append_assoc old.bits code (child_bits w.first_bits ++ tail)) in
    record {
      started = started;
      one = one;
      start = (code, rw was (element_moves s top above entries name kind next code starts), record { written = refl; room = adds.room });
      first_put =
          named_put s started one (opened name (first kind)) around_it q.behind_first entries w.children.first values.first (number_bits 1 0) w.first_bits q.first_kind refl refl (record { written = refl; room = refl })
          (one_code s.kinds (first kind) (element w.children.first.name q.first_kind q.behind_first) q.first_only) q.first_simple w.first_is;
      rest_put = rest_put s name (first kind) around_it entries w.children q one new values.second values.third w.rest_bits refl is (record { written = all; room = refl }) w.rest_is;
    }
