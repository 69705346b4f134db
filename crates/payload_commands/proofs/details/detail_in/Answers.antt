use Rattle.std.proofs.Common.{sym}
use Rattle.payload_commands.proofs.Detailed.{line_in, fault_in, counts_in}
use Rattle.payload_commands.proofs.details.detail_in.Goals as goal

pub returns-in-Ok-clause-line : goal.returns-in-Ok-clause-line
returns-in-Ok-clause-line g c =
    line_in c.args.id _ _ _ c.line_from.result (rw (sym c.deref.ensures.value) at c.in-Ok.ensures.bytes) c.line_from.ensures.line

pub returns-in-Ok-clause-fault : goal.returns-in-Ok-clause-fault
returns-in-Ok-clause-fault g c =
    fault_in c.args.id _ _ _ c.line_from.result (rw (sym c.deref.ensures.value) at c.in-Ok.ensures.bytes) c.line_from.ensures.fault

pub returns-in-Ok-clause-faults : goal.returns-in-Ok-clause-faults
returns-in-Ok-clause-faults g c = counts_in c.args.id _ _ _ c.line_from.result c.in-Ok.ensures.faults c.line_from.ensures.fault
