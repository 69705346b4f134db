use Rattle.exi_schema.specs.Told.{schema_of}
use Rattle.exi_tables.specs.Filled.{IsTable, IsRow}
use Rattle.exi_tables.proofs.filling.rows_of_copies.Given as goal

abbrev pub invariant-loop-copies : goal.invariant-loop-copies
invariant-loop-copies l = IsTable l.copies (λ copies row. IsRow (schema_of l.schema) (record l.here { copies = copies }) row) l.rows.items
