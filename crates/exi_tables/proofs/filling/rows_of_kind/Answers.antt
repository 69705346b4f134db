use Rattle.std.proofs.Common.{◌≤◌, arith}
use Rattle.exi_schema.specs.Plain.{plain_kind}
use Rattle.exi_schema.specs.Told.{schema_of}
use Rattle.exi_tables.specs.Counts.{attribute_places}
use Rattle.exi_tables.proofs.Counted.{few_places}
use Rattle.exi_tables.proofs.Tables.{table_grows}
use Rattle.exi_tables.proofs.filling.rows_of_kind.Goals as goal

pub overflow_cast-place : goal.overflow_cast-place
overflow_cast-place c =
    let few : attribute_places (plain_kind c.args.declaration.now) ≤ 65536 =
    (few_places (schema_of c.args.schema.now) c.args.here.kind (plain_kind c.args.declaration.now) c.requires).attributes in
    omega (arith, few)

pub loop-attributes-preserved : goal.loop-attributes-preserved
loop-attributes-preserved c = table_grows _ _ _ _ _ c.loop-attributes.invariant c.in_ok-rows_of_particles.ensures c.in_ok-push.ensures.items
