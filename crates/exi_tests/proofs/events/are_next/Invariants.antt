use Rattle.exi_schema.specs.Told.{schema_of}
use Rattle.exi_events.specs.Reader.{IsReady}
use Rattle.exi_tests.proofs.events.are_next.Given as goal

abbrev pub invariant-loop-told : goal.invariant-loop-told
invariant-loop-told l = IsReady schema_of l.reader
