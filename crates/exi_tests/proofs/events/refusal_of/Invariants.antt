use Rattle.exi_schema.specs.Told.{schema_of}
use Rattle.exi_events.specs.Reader.{IsReady}
use Rattle.exi_tests.proofs.events.refusal_of.Given as goal

abbrev pub invariant-loop : goal.invariant-loop
invariant-loop l = IsReady schema_of l.reader
