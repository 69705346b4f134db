use Rattle.std.proofs.Common.{arith}
use Rattle.value_text.proofs.Numerals.{first_digit, next_digit, below_all}
use Rattle.value_text.proofs.cursor.TextCursor.positive.Goals as goal

pub loop-count-init : goal.loop-count-init
loop-count-init c =
    let read = c.in_ok-first.ensures in
    first_digit c.args.self.now _ c.in_ok-first.first _ c.from-number.ensures c.if-first-eq0.false read.0 read.1

pub returns-in_default : goal.returns-in_default
returns-in_default c =
    let sofar = c.loop-count.invariant in
    let left = c.in_default.ensures in
    rw left.0 (sofar.0, below_all _ c.loop-count._count sofar.1 (omega (arith, c.loop-count-test.true)), sofar.3, λ short. left.1)

pub loop-count-preserved : goal.loop-count-preserved
loop-count-preserved c =
    let read = c.in-Some.ensures in
    next_digit c.args.self.now c.loop-count.ahead _ c.loop-count.number c.in-Some.digit _ c.loop-count._count c.loop-count.invariant c.loop-count-test.true c.from.ensures read.0 read.1

pub overflow_mul-number : goal.overflow_mul-number
overflow_mul-number c = omega (arith, below_all c.loop-count.number c.loop-count._count c.loop-count.invariant.1 (omega (arith, c.loop-count-test.true)))

pub overflow_add-number : goal.overflow_add-number
overflow_add-number c =
    omega (arith, c.in-Some.ensures.0, c.from.ensures, below_all c.loop-count.number c.loop-count._count c.loop-count.invariant.1 (omega (arith, c.loop-count-test.true)))

pub returns : goal.returns
returns c =
    let sofar = c.loop-count.invariant in
    let counted = c.loop-count.auto._count-end in
    (sofar.0, below_all _ c.loop-count._count sofar.1 (omega (arith, counted)), sofar.3, λ short. absurd (omega (arith, short, sofar.2, c.loop-count-test.false)))
