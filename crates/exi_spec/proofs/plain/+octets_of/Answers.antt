use Rattle.std.proofs.Common.{arith}
use Rattle.std.proofs.lemmas.List.{length-drop, take_rest}
use Rattle.std.proofs.lemmas.Result.{err_from_is_err_and}
use Rattle.exi_spec.proofs.PlainSteps.{first_low, last_high, later_refused, wide_high, first_high}
use Rattle.exi_spec.proofs.plain.+octets_of.Goals as goal

pub returns-then-octet-lt128 : goal.returns-then-octet-lt128
returns-then-octet-lt128 t c =
    (c.if-bits-lt8.false, first_low c.args.most c.octet_of-octet.result c.args.bits.now c.requires c.if-bits-lt8.false c.octet_of-octet.ensures.value c.if-octet-lt128.true)

pub returns-then-most-eq1 : goal.returns-then-most-eq1
returns-then-most-eq1 t c =
    last_high c.args.most c.octet_of-octet.result c.args.bits.now c.if-most-eq1.true c.if-bits-lt8.false c.octet_of-octet.ensures.value c.if-octet-lt128.false

pub returns-in_err-high : goal.returns-in_err-high
returns-in_err-high t c =
    let p = err_from_is_err_and c.from_residual.result c.from_residual.ensures.1 in
    rw (p.1, p.2) (later_refused c.args.most c.octet_of-octet.result c.args.bits.now _ c.requires c.if-bits-lt8.false c.octet_of-octet.ensures.value c.if-octet-lt128.false (rw (take_rest c.args.bits.now 8) at c.in_err-high.ensures))

pub returns-then-high : goal.returns-then-high
returns-then-high t c =
    wide_high c.args.most c.octet_of-octet.result c.in_ok-high.high c.in_ok-high.used c.args.bits.now c.requires c.if-bits-lt8.false c.octet_of-octet.ensures.value c.if-octet-lt128.false c.if-high.true (rw (take_rest c.args.bits.now 8) at c.in_ok-high.ensures.1)

pub returns : goal.returns
returns t c = (
  omega (arith, rw (take_rest c.args.bits.now 8) at c.in_ok-high.ensures.0, length-drop 8 c.args.bits.now, c.if-bits-lt8.false),
  first_high c.args.most c.octet_of-octet.result c.in_ok-high.high c.in_ok-high.used c.args.bits.now c.requires c.if-bits-lt8.false c.octet_of-octet.ensures.value c.if-octet-lt128.false c.if-high.false (rw (take_rest c.args.bits.now 8) at c.in_ok-high.ensures.1),
)
