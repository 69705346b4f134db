use Rattle.std.proofs.Common.{refl}
use Rattle.migrate_command.proofs.Decided.{migrated, refused}
use Rattle.migrate_command.proofs.Complete.{complete}
use Rattle.migrate_command.proofs.command.migrate.Goals as goal

pub returns-in-Ok-clause-leaves : goal.returns-in-Ok-clause-leaves
returns-in-Ok-clause-leaves g c =
    migrated _ _ _ _ _ c.in-Ok.entries.items _ _ c.in-Ok.ensures.read c.in-Ok.ensures.faults c.write_migrated.ensures.wrote

pub returns-in-Err-clause-leaves : goal.returns-in-Err-clause-leaves
returns-in-Err-clause-leaves g c =
    refused _ c.in-Err.fault _ _ _ _ _ _ c.in-Err.ensures.fault (record { same = refl; faults = refl }) c.in-Err.ensures.faults c.refuse.ensures.refuses

pub returns-in-Ok-clause-complete : goal.returns-in-Ok-clause-complete
returns-in-Ok-clause-complete g c = complete _ _ _ _ _ _ _ (returns-in-Ok-clause-leaves g c) c.write_migrated.ensures.sink_fault
