use Rattle.std.proofs.Common.{◌≤◌, arith}
use Rattle.exi_schema.specs.Plain.{plain_kind}
use Rattle.exi_schema.specs.Told.{schema_of}
use Rattle.exi_tables.specs.Counts.{copy_places}
use Rattle.exi_tables.proofs.Counted.{few_places}
use Rattle.exi_tables.proofs.Tables.{table_grows}
use Rattle.exi_tables.proofs.filling.rows_of_copies.Goals as goal

pub overflow_cast-place : goal.overflow_cast-place
overflow_cast-place c =
    let few : copy_places (plain_kind c.args.declaration.now) c.args.here.particle ≤ 65536 =
    (few_places (schema_of c.args.schema.now) c.args.here.kind (plain_kind c.args.declaration.now) c.requires.declared).copies c.args.here.particle in
    omega (arith, few)

pub loop-copies-preserved : goal.loop-copies-preserved
loop-copies-preserved c = table_grows _ _ _ _ _ c.loop-copies.invariant c.in_ok-row_of.ensures c.in_ok-push.ensures.items
