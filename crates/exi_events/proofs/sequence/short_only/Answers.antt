use Rattle.std.proofs.Common.{arith, refl}
use Rattle.exi_events.proofs.Simple.{step_taken}
use Rattle.exi_events.proofs.Taking.{code_held, code_is, code_behind}
use Rattle.exi_events.proofs.sequence.short_only.Goals as goal

pub returns-then-code-eq0-clause-taken : goal.returns-then-code-eq0-clause-taken
returns-then-code-eq0-clause-taken c = λ kinds here step is. step_taken kinds here step _ _ c.in_ok-code.code is c.if-code-eq0.true c.in_ok-code.ensures.taken

pub returns-in_err-code-clause-none : goal.returns-in_err-code-clause-none
returns-in_err-code-clause-none c none behind rest h =
    omega (arith, code_held 1 0 (omega arith) behind rest _ h, c.in_err-code.ensures.none refl (omega arith))

pub returns-else-code-eq0-clause-none : goal.returns-else-code-eq0-clause-none
returns-else-code-eq0-clause-none c none behind rest h =
    c.if-code-eq0.false (code_is 1 0 (omega arith) c.in_ok-code.code behind rest _ c.take_bits.new.self c.in_ok-code.ensures.taken h)

pub returns-then-code-eq0-clause-behind : goal.returns-then-code-eq0-clause-behind
returns-then-code-eq0-clause-behind c = λ behind rest h. code_behind 1 0 (omega arith) c.in_ok-code.code behind rest _ _ c.in_ok-code.ensures.end c.in_ok-code.ensures.taken h
