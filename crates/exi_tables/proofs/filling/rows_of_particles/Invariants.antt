use Rattle.exi_schema.specs.Plain.{plain_kind}
use Rattle.exi_schema.specs.Told.{schema_of}
use Rattle.exi_tables.specs.Filled.{IsTable, HoldsCopies}
use Rattle.exi_tables.proofs.filling.rows_of_particles.Given as goal

abbrev pub invariant-loop-particle : goal.invariant-loop-particle
invariant-loop-particle l = IsTable l.particle (λ particle rows. HoldsCopies (schema_of l.schema) (plain_kind l.declaration) (record l.here { particle = particle }) rows.items) l.tables.items
