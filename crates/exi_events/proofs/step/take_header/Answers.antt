use Rattle.exi_events.proofs.Front.{other_header}
use Rattle.exi_events.proofs.step.take_header.Goals as goal

pub returns-then-header-ne128-clause-refused : goal.returns-then-header-ne128-clause-refused
returns-then-header-ne128-clause-refused c = other_header _ _ _ c.in_ok-header.ensures.ok c.if-header-ne128.true
