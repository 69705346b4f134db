use Rattle.std.proofs.Common.{[], refl, sym, subst, ◌∙◌}
use Rattle.exi_events.specs.Trees.{Value}
use Rattle.message_parts.specs.Reading.{StartsAt, seen_of}
use Rattle.message_parts.specs.Perhaps.{HoldsPerhaps}
use Rattle.message_parts.specs.Values.{IsRead}
use Rattle.message_parts.proofs.Singles.{taken}
use Rattle.message_parts.proofs.Perhaps.{told_as}
use Rattle.message_parts.proofs.children.optional_second.Goals as goal

pub returns-in-Some-clause-read : goal.returns-in-Some-clause-read
returns-in-Some-clause-read g c = λ ks F declared told h q.
    let a = taken _ _ q.first_is in
    let b = taken _ _ q.second_is in
    let e = taken _ _ q.third_is in
    let holds : HoldsPerhaps ks declared g.row.NAME a.0 b.0 e.0 = record {
      first_once = q.first_once;
      second_once = q.second_once;
      third_once = q.third_once;
      named = q.named;
      first_is = a.1;
      second_is = b.1;
      third_is = e.1;
    } in
    let both = c.in-Some.ensures.values ks F declared told a.0 b.0 e.0 h holds in
    let first_read = subst (λ (x : Value). IsRead a.0 x) (sym c.as_value.ensures.value) both.0.0 in
    let third_read = subst (λ (x : Value). IsRead e.0 x) (sym c.as_value-in-Some.ensures.value) both.0.2 in
    let first_is = sym (c.of.ensures a.0 a.2 first_read ∙ c.as_value.ensures.value) in
    let third_is = sym (c.of-in-Some.ensures e.0 e.2 third_read ∙ c.as_value-in-Some.ensures.value) in
    told_as ks F declared told g.row.NAME _ _ _ _ _ _ _ first_is (c.second_of.ensures b.0 b.2 both.0.1) third_is both.1

pub returns-in-None-clause-read : goal.returns-in-None-clause-read
returns-in-None-clause-read g c = λ ks F declared told h q.
    let begins : StartsAt ks F [] declared 0 told (seen_of g.P.Places.schema c.optional_values.new.self) = rw (c.in-None.ensures.none refl) h in
    c.each_of_optional.ensures.read ks F declared told begins q
