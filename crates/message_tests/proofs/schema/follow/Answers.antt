use Rattle.exi_schema.specs.Told.{schema_of}
use Rattle.message_tests.proofs.schema.follow.Goals as goal

pub loop-width-init : goal.loop-width-init
loop-width-init c = c.first-place.ensures.of_schema (schema_of c.args.schema.now) c.requires
