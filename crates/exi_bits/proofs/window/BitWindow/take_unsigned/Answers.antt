use Rattle.std.proofs.Common.{arith, refl}
use Rattle.exi_bits.proofs.Held.{octet_taken, octets_taken}
use Rattle.exi_bits.proofs.Whole.{no_octet, octets_on}
use Rattle.exi_bits.proofs.window.BitWindow.take_unsigned.Goals as goal

pub returns-then-first-lt128-clause-taken : goal.returns-then-first-lt128-clause-taken
returns-then-first-lt128-clause-taken c = rw c.from.ensures (octet_taken 10 c.in_ok-first.first _ _ (omega arith) c.if-first-lt128.true c.in_ok-first.ensures.taken)

pub octets_value-requires-clause-octet : goal.octets_value-requires-clause-octet
octets_value-requires-clause-octet c = c.in_ok-first.ensures.taken.1.range

pub returns-clause-taken : goal.returns-clause-taken
returns-clause-taken c =
    rw c.octets_value.ensures (octets_taken 9 c.in_ok-first.first c.in_ok-high.high _ _ _ c.if-first-lt128.false (omega (arith, c.in_ok-high.ensures.few)) c.in_ok-first.ensures.taken c.in_ok-high.ensures.taken)

pub returns-in_err-first-clause-none : goal.returns-in_err-first-clause-none
returns-in_err-first-clause-none c none value h = no_octet 10 value 24 _ (c.in_err-first.ensures.none refl (omega arith)) h

pub returns-in_err-high-clause-none : goal.returns-in_err-high-clause-none
returns-in_err-high-clause-none c none value h =
    let on = octets_on 9 c.in_ok-first.first value 16 _ _ c.if-first-lt128.false c.in_ok-first.ensures.taken c.in_ok-first.ensures.held h in
    c.in_err-high.ensures.none refl on.0 on.1
