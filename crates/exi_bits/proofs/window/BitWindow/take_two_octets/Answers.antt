use Rattle.std.proofs.Common.{arith, refl}
use Rattle.exi_bits.proofs.Held.{octet_taken, octets_taken}
use Rattle.exi_bits.proofs.Whole.{no_octet, none_asked, octets_on}
use Rattle.exi_bits.proofs.window.BitWindow.take_two_octets.Goals as goal

pub returns-then-first-lt128-clause-taken : goal.returns-then-first-lt128-clause-taken
returns-then-first-lt128-clause-taken c = rw c.from.ensures (octet_taken 9 c.in_ok-first.first _ _ (omega arith) c.if-first-lt128.true c.in_ok-first.ensures.taken)

pub octets_value-requires-clause-octet : goal.octets_value-requires-clause-octet
octets_value-requires-clause-octet c = c.in_ok-first.ensures.taken.1.range

pub returns-clause-taken : goal.returns-clause-taken
returns-clause-taken c =
    rw (c.octets_value.ensures, c.from-2.ensures) (octets_taken 8 c.in_ok-first.first c.in_ok-second.second _ _ _ c.if-first-lt128.false (omega (arith, c.if-second-ge128.false)) c.in_ok-first.ensures.taken
    (octet_taken 8 c.in_ok-second.second _ _ (omega arith) c.if-second-ge128.false c.in_ok-second.ensures.taken))

pub returns-in_err-first-clause-none : goal.returns-in_err-first-clause-none
returns-in_err-first-clause-none c none value h = no_octet 9 value 16 _ (c.in_err-first.ensures.none refl (omega arith)) h

pub returns-in_err-second-clause-none : goal.returns-in_err-second-clause-none
returns-in_err-second-clause-none c none value h =
    let on = octets_on 8 c.in_ok-first.first value 8 _ _ c.if-first-lt128.false c.in_ok-first.ensures.taken c.in_ok-first.ensures.held h in
    no_octet 8 on.0 8 _ (c.in_err-second.ensures.none refl (omega arith)) on.1

pub returns-then-second-ge128-clause-none : goal.returns-then-second-ge128-clause-none
returns-then-second-ge128-clause-none c none value h =
    let on = octets_on 8 c.in_ok-first.first value 8 _ _ c.if-first-lt128.false c.in_ok-first.ensures.taken c.in_ok-first.ensures.held h in
    let last = octets_on 7 c.in_ok-second.second on.0 0 _ _ c.if-second-ge128.true c.in_ok-second.ensures.taken c.in_ok-second.ensures.held on.1 in
    none_asked 7 last.0 0 _ (omega arith) last.1
