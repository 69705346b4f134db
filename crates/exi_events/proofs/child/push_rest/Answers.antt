use Rattle.std.proofs.Common.{refl}
use Rattle.exi_events.proofs.Fitting.{with_second, without_second, with_code, without_code, with_inside, without_inside, with_third, with_pushed, without_pushed}
use Rattle.exi_events.proofs.Lengths.{bits_long, joined_long}
use Rattle.exi_events.proofs.Words.{some_weaker}
use Rattle.exi_events.proofs.child.push_rest.Goals as goal

pub returns-in_err-push-in-Some-clause-none : goal.returns-in_err-push-in-Some-clause-none
returns-in_err-push-in-Some-clause-none c none bits is =
    let named = c.in-Some.second in
    with_code c.args.children.now c.args.values.now.second c.args.values.now.third bits c.args.word.now named
    (with_second c.args.children.now c.args.values.now.second c.args.values.now.third bits named c.in-Some.is is) (c.in_err-push-in-Some.ensures.none refl)

pub returns-in_err-push_inside-in-Some-clause-none : goal.returns-in_err-push_inside-in-Some-clause-none
returns-in_err-push_inside-in-Some-clause-none c none bits is =
    let named = c.in-Some.second in
    let rest = with_second c.args.children.now c.args.values.now.second c.args.values.now.third bits named c.in-Some.is is in
    with_inside c.args.children.now c.args.values.now.second c.args.values.now.third bits c.args.word.now c.push.new.self named rest
    (bits_long c.args.word.now c.push.new.self 2 0 c.in_ok-push-in-Some.ensures.pushed) (c.in_err-push_inside-in-Some.ensures.none refl rest.0 rest.2)

pub returns-in_ok-push_inside-in-Some-clause-pushed : goal.returns-in_ok-push_inside-in-Some-clause-pushed
returns-in_ok-push_inside-in-Some-clause-pushed c =
    some_weaker c.push_child.result _ _
    (λ last. with_pushed c.args.children.now c.args.values.now.second c.args.values.now.third c.args.word.now c.push.new.self c.push_inside.new.word c.push_child.new.word c.in-Some.second c.in-Some.is c.in_ok-push-in-Some.ensures.pushed c.in_ok-push_inside-in-Some.ensures.pushed last)
    c.push_child.ensures.pushed

pub returns-in_ok-push_inside-in-Some-clause-none : goal.returns-in_ok-push_inside-in-Some-clause-none
returns-in_ok-push_inside-in-Some-clause-none c none bits is =
    let named = c.in-Some.second in
    let rest = with_second c.args.children.now c.args.values.now.second c.args.values.now.third bits named c.in-Some.is is in
    let pushed = c.in_ok-push_inside-in-Some.ensures.pushed in
    with_third c.args.children.now c.args.values.now.second c.args.values.now.third bits c.args.word.now c.push.new.self c.push_inside.new.word pushed.0 named rest
    (bits_long c.args.word.now c.push.new.self 2 0 c.in_ok-push-in-Some.ensures.pushed) (joined_long c.push.new.self c.push_inside.new.word _ pushed.1) pushed.2 (c.push_child.ensures.none none rest.1 rest.3)

pub returns-in_err-push-in-None-clause-none : goal.returns-in_err-push-in-None-clause-none
returns-in_err-push-in-None-clause-none c none bits is =
    without_code c.args.children.now c.args.values.now.second c.args.values.now.third bits c.args.word.now
    (without_second c.args.children.now c.args.values.now.second c.args.values.now.third bits c.in-None.is is) (c.in_err-push-in-None.ensures.none refl)

pub returns-in_ok-push-in-None-clause-pushed : goal.returns-in_ok-push-in-None-clause-pushed
returns-in_ok-push-in-None-clause-pushed c =
    some_weaker c.push_inside-in-None.result _ _
    (λ last. without_pushed c.args.children.now c.args.values.now.second c.args.values.now.third c.args.word.now c.push-in-None.new.self c.push_inside-in-None.new.word c.in-None.is c.in_ok-push-in-None.ensures.pushed last)
    c.push_inside-in-None.ensures.pushed

pub returns-in_ok-push-in-None-clause-none : goal.returns-in_ok-push-in-None-clause-none
returns-in_ok-push-in-None-clause-none c none bits is =
    let rest = without_second c.args.children.now c.args.values.now.second c.args.values.now.third bits c.in-None.is is in
    without_inside c.args.children.now c.args.values.now.second c.args.values.now.third bits c.args.word.now c.push-in-None.new.self rest
    (bits_long c.args.word.now c.push-in-None.new.self 2 1 c.in_ok-push-in-None.ensures.pushed) (c.push_inside-in-None.ensures.none none rest.0 rest.1)
