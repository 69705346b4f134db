use Rattle.file_commands.proofs.Calendars.{offered_in, memory_in, counts_in}
use Rattle.file_commands.proofs.offers.lines_in.Goals as goal

pub returns-in-Ok-clause-offered : goal.returns-in-Ok-clause-offered
returns-in-Ok-clause-offered g c =
    offered_in c.args.moment _ _ c.in-Ok.calendar c.lines_of.result c.in-Ok.ensures.within c.in-Ok.ensures.calendar c.lines_of.ensures.offered

pub returns-in-Ok-clause-fault : goal.returns-in-Ok-clause-fault
returns-in-Ok-clause-fault g c = memory_in _ _ c.lines_of.result c.lines_of.ensures.fault

pub returns-in-Ok-clause-faults : goal.returns-in-Ok-clause-faults
returns-in-Ok-clause-faults g c = counts_in _ _ c.lines_of.result c.in-Ok.ensures.faults c.lines_of.ensures.fault
