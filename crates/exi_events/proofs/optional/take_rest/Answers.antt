use Rattle.std.proofs.Common.{◌∙◌, [], refl, arith}
use Rattle.exi_schema.specs.declared.places.Step.TheVariants.{End}
use Rattle.exi_events.proofs.OptionalHeld.{rest_held, second_there, second_absent}
use Rattle.exi_events.proofs.Taking.{end_opened}
use Rattle.exi_events.proofs.OptionalTaken.{with_second, without_second, second_starts, third_starts, third_offered, end_offered, behind_third, third_kind}
use Rattle.exi_events.proofs.optional.take_rest.Goals as goal

pub returns-then-code-eq0-clause-rest : goal.returns-then-code-eq0-clause-rest
returns-then-code-eq0-clause-rest c = λ s name here above entries on.
    let children = c.args.children.now in
    let third_place = behind_third s.kinds here children on in
    let read = c.in_ok-code.ensures.same in
    let second = c.in_ok-second.ensures.same in
    let starts = second_starts s.kinds here children on _ _ c.in_ok-code.code c.if-code-eq0.true c.in_ok-code.ensures.taken in
    with_second s name above entries c.args.window.now.cursor.bits here children on _ _ _ _ _ _ c.in_ok-second.second _ read (second ∙ read)
    (c.in_ok-second.ensures.child s name on.kind here on.next above entries _ on.simple starts) (second ∙ read)
    (c.in_ok-third.ensures.child s name on.next third_place above entries (third_offered s.kinds here children on)) c.in_ok-third.ensures.same
    (c.in_ok-short_only.ensures.taken s.kinds third_place End (end_offered s.kinds here children on))

pub returns-clause-rest : goal.returns-clause-rest
returns-clause-rest c = λ s name here above entries on.
    let children = c.args.children.now in
    let third_place = behind_third s.kinds here children on in
    let read = c.in_ok-code.ensures.same in
    let starts = third_starts s.kinds here children on _ _ c.in_ok-code.code c.if-code-ne1.false c.in_ok-code.ensures.taken in
    without_second s name above entries c.args.window.now.cursor.bits here children on _ _ _ _ _ read
    (c.in_ok-third-2.ensures.child s name (third_kind s.kinds here children on) here third_place above entries _ on.third_only.3 starts) (c.in_ok-third-2.ensures.same ∙ read)
    (c.in_ok-short_only-2.ensures.taken s.kinds third_place End (end_offered s.kinds here children on))

pub returns-in_err-code-clause-none : goal.returns-in_err-code-clause-none
returns-in_err-code-clause-none c none bits rest is h =
    omega (arith, rest_held c.args.children.now bits rest c.args.window.now is h, c.in_err-code.ensures.none refl (omega arith))

pub returns-in_err-second-clause-none : goal.returns-in_err-second-clause-none
returns-in_err-second-clause-none c none bits rest is h =
    let there = second_there c.args.children.now bits rest c.in_ok-code.code c.args.window.now c.take_bits.new.self c.in_ok-code.ensures.end c.in_ok-code.ensures.taken is h c.if-code-eq0.true in
    c.in_err-second.ensures.none refl there.0 _ rest there.2 there.4

pub returns-in_err-third-clause-none : goal.returns-in_err-third-clause-none
returns-in_err-third-clause-none c none bits rest is h =
    let there = second_there c.args.children.now bits rest c.in_ok-code.code c.args.window.now c.take_bits.new.self c.in_ok-code.ensures.end c.in_ok-code.ensures.taken is h c.if-code-eq0.true in
    c.in_err-third.ensures.none refl there.1 _ rest there.3 (c.in_ok-second.ensures.behind there.0 _ rest there.2 there.4)

pub returns-in_err-short_only-clause-none : goal.returns-in_err-short_only-clause-none
returns-in_err-short_only-clause-none c none bits rest is h =
    let there = second_there c.args.children.now bits rest c.in_ok-code.code c.args.window.now c.take_bits.new.self c.in_ok-code.ensures.end c.in_ok-code.ensures.taken is h c.if-code-eq0.true in
    c.in_err-short_only.ensures.none refl [] rest (end_opened rest _ (c.in_ok-third.ensures.behind there.1 _ rest there.3 (c.in_ok-second.ensures.behind there.0 _ rest there.2 there.4)))

pub returns-then-code-ne1-clause-none : goal.returns-then-code-ne1-clause-none
returns-then-code-ne1-clause-none c none bits rest is h =
    let there = second_absent c.args.children.now bits rest c.in_ok-code.code c.args.window.now c.take_bits.new.self c.in_ok-code.ensures.end c.in_ok-code.ensures.taken is h c.if-code-eq0.false in
    c.if-code-ne1.true there.1

pub returns-in_err-third-2-clause-none : goal.returns-in_err-third-2-clause-none
returns-in_err-third-2-clause-none c none bits rest is h =
    let there = second_absent c.args.children.now bits rest c.in_ok-code.code c.args.window.now c.take_bits.new.self c.in_ok-code.ensures.end c.in_ok-code.ensures.taken is h c.if-code-eq0.false in
    c.in_err-third-2.ensures.none refl there.0 _ rest there.2 there.3

pub returns-in_err-short_only-2-clause-none : goal.returns-in_err-short_only-2-clause-none
returns-in_err-short_only-2-clause-none c none bits rest is h =
    let there = second_absent c.args.children.now bits rest c.in_ok-code.code c.args.window.now c.take_bits.new.self c.in_ok-code.ensures.end c.in_ok-code.ensures.taken is h c.if-code-eq0.false in
    c.in_err-short_only-2.ensures.none refl [] rest (end_opened rest _ (c.in_ok-third-2.ensures.behind there.0 _ rest there.2 there.3))
