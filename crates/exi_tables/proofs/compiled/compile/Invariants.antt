use Rattle.exi_schema.specs.Told.{schema_of}
use Rattle.exi_tables.specs.Filled.{IsTable, IsKindTable}
use Rattle.exi_tables.proofs.compiled.compile.Given as goal

abbrev pub invariant-loop-kind : goal.invariant-loop-kind
invariant-loop-kind g l = IsTable l.kind (IsKindTable (schema_of l.schema)) l.kinds.items
