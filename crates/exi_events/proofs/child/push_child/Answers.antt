use Rattle.std.proofs.Common.{arith, refl}
use Rattle.exi_events.proofs.Fitting.{inside_long, child_long}
use Rattle.exi_events.proofs.Lengths.{bits_long}
use Rattle.exi_events.proofs.child.push_child.Goals as goal

pub returns-in_err-push-clause-none : goal.returns-in_err-push-clause-none
returns-in_err-push-clause-none c none bits is = omega (arith, child_long bits, c.in_err-push.ensures.none refl)

pub returns-clause-none : goal.returns-clause-none
returns-clause-none c none bits is =
    let one = bits_long c.args.word.now c.push.new.self 1 0 c.in_ok-push.ensures.pushed in
    omega (arith, child_long bits, inside_long bits, one, c.push_inside.ensures.none none bits is)
