use Rattle.std.proofs.Common.{arith, refl}
use Rattle.exi_reading.proofs.Shortened.{short_held, code_above}
use Rattle.exi_reading.proofs.short.short_code.Goals as goal

pub returns-in_err-code-clause-none : goal.returns-in_err-code-clause-none
returns-in_err-code-clause-none c none code most h =
    short_held c.args.count c.index_width.result c.index_width.ensures.least code most _ h (c.in_err-code.ensures.none refl)

pub returns-else-code-count-clause-none : goal.returns-else-code-count-clause-none
returns-else-code-count-clause-none c none code most h =
    code_above c.args.count c.index_width.result c.index_width.ensures.least code most _ h c.in_ok-code.code _ c.in_ok-code.ensures.taken (omega (arith, c.if-code-count.false))
