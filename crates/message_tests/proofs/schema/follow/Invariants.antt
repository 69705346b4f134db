use Rattle.exi_schema.specs.Offers.{IsPlace}
use Rattle.exi_schema.specs.Told.{schema_of}
use Rattle.message_tests.proofs.schema.follow.Given as goal

abbrev pub invariant-loop-width : goal.invariant-loop-width
invariant-loop-width l = IsPlace (schema_of l.schema).kinds l.place
