use Rattle.exi_schema.specs.Plain.{plain_kind}
use Rattle.exi_schema.specs.Told.{schema_of}
use Rattle.exi_tables.specs.Filled.{IsTable, HoldsParticles}
use Rattle.exi_tables.proofs.filling.rows_of_kind.Given as goal

abbrev pub invariant-loop-attributes : goal.invariant-loop-attributes
invariant-loop-attributes l = IsTable l.attributes (λ attributes rows. HoldsParticles (schema_of l.schema) (plain_kind l.declaration) (record l.here { attributes = attributes }) rows.items) l.tables.items
