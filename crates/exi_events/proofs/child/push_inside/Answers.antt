use Rattle.std.proofs.Common.{arith, refl}
use Rattle.exi_events.proofs.Fitting.{inside_long, named_long}
use Rattle.exi_events.proofs.Lengths.{bits_long, joined_long}
use Rattle.exi_events.proofs.child.push_inside.Goals as goal

pub returns-in_err-push-clause-none : goal.returns-in_err-push-clause-none
returns-in_err-push-clause-none c none bits is = omega (arith, inside_long bits, c.in_err-push.ensures.none refl)

pub returns-in_err-push_value-clause-none : goal.returns-in_err-push_value-clause-none
returns-in_err-push_value-clause-none c none bits is =
    let one = bits_long c.args.word.now c.push.new.self 1 0 c.in_ok-push.ensures.pushed in
    omega (arith, inside_long bits, one, c.in_err-push_value.ensures.none refl bits is.written)

pub returns-clause-none : goal.returns-clause-none
returns-clause-none c none bits is =
    let one = bits_long c.args.word.now c.push.new.self 1 0 c.in_ok-push.ensures.pushed in
    let pushed = c.in_ok-push_value.ensures.pushed in
    let two = joined_long c.push.new.self c.push_value.new.word pushed.0 pushed.1 in
    let same = named_long c.args.child c.args.named pushed.0 bits (record { name_is = is.name_is; writes = pushed.2 }) is in
    omega (arith, inside_long bits, one, two, same, c.push-2.ensures.none none)
