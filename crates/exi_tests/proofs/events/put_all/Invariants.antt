use Rattle.exi_events.specs.Writer.{IsReadyToPut}
use Rattle.exi_tests.proofs.events.put_all.Given as goal

abbrev pub invariant-loop-told : goal.invariant-loop-told
invariant-loop-told l = IsReadyToPut l.writer
