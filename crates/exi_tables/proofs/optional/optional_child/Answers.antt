use Rattle.exi_schema.specs.Told.{schema_of}
use Rattle.exi_tables.proofs.OptionalSequenced.{optional_child}
use Rattle.exi_tables.proofs.optional.optional_child.Goals as goal

pub returns-clause-child : goal.returns-clause-child
returns-clause-child c =
    optional_child (schema_of c.args.schema.now).kinds c.args.place c.alternatives.result c.child_step.result c.alternatives.ensures c.if-alternatives-ne2.false c.child_step.ensures.child
