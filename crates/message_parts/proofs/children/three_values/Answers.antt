use Rattle.std.proofs.Common.{refl, sym, subst, [], ◌∙◌}
use Rattle.exi_events.specs.Trees.{Value}
use Rattle.exi_events.specs.Short.{tree_of}
use Rattle.message_parts.specs.Reading.{Reads, StartsAt, seen_of}
use Rattle.message_parts.specs.Sequence.{HoldsThree, told_three}
use Rattle.message_parts.specs.Values.{IsRead}
use Rattle.message_parts.proofs.Singles.{taken}
use Rattle.message_parts.proofs.children.three_values.Goals as goal

pub of-requires : goal.of-requires
of-requires g c κs = ((refl, tt), (c.args.descent.now.reader.reader.bits, c.as_value.ensures.lent c.args.descent.now.reader.reader.bits))

pub of-requires-in-Some : goal.of-requires-in-Some
of-requires-in-Some g c κs = ((refl, tt), (c.args.descent.now.reader.reader.bits, c.as_value-in-Some.ensures.lent c.args.descent.now.reader.reader.bits))

pub of-requires-in-Some-2 : goal.of-requires-in-Some-2
of-requires-in-Some-2 g c κs = ((refl, tt), (c.args.descent.now.reader.reader.bits, c.as_value-in-Some-2.ensures.lent c.args.descent.now.reader.reader.bits))

pub returns-in-Some-clause-read : goal.returns-in-Some-clause-read
returns-in-Some-clause-read g c = λ ks F declared told h q.
    let d = seen_of g.P.Places.schema c.three_values.new.self in
    let a = taken _ _ q.first_is in
    let b = taken _ _ q.second_is in
    let e = taken _ _ q.third_is in
    let holds : HoldsThree ks declared a.0 b.0 e.0 = record { once = (q.first_once, q.second_once, q.third_once); first_is = a.1; second_is = b.1; third_is = e.1 } in
    let both = c.in-Some.ensures.values ks F declared told a.0 b.0 e.0 h holds in
    let first_read = subst (λ (x : Value). IsRead a.0 x) (sym c.as_value.ensures.value) both.0.0 in
    let second_read = subst (λ (x : Value). IsRead b.0 x) (sym c.as_value-in-Some.ensures.value) both.0.1 in
    let third_read = subst (λ (x : Value). IsRead e.0 x) (sym c.as_value-in-Some-2.ensures.value) both.0.2 in
    let first_is = sym (c.of.ensures a.0 a.2 first_read ∙ c.as_value.ensures.value) in
    let second_is = sym (c.of-in-Some.ensures b.0 b.2 second_read ∙ c.as_value-in-Some.ensures.value) in
    let third_is = sym (c.of-in-Some-2.ensures e.0 e.2 third_read ∙ c.as_value-in-Some-2.ensures.value) in
    subst (λ (x : Value). Reads ks F [] declared 3 (told_three declared (g.A.Simple.value c.of.result) (g.B.Simple.value c.of-in-Some.result) x told) d) third_is
    (subst (λ (x : Value). Reads ks F [] declared 3 (told_three declared (g.A.Simple.value c.of.result) x (tree_of c.in-Some.values.third) told) d) second_is
    (subst (λ (x : Value). Reads ks F [] declared 3 (told_three declared x (tree_of c.in-Some.values.second) (tree_of c.in-Some.values.third) told) d) first_is both.1))

pub returns-in-None-clause-read : goal.returns-in-None-clause-read
returns-in-None-clause-read g c = λ ks F declared told h q.
    let begins : StartsAt ks F [] declared 0 told (seen_of g.P.Places.schema c.three_values.new.self) = rw (c.in-None.ensures.none refl) h in
    c.each_of_three.ensures.read ks F declared told begins q
