use Rattle.std.proofs.Common.{take}
use Rattle.std.specs.List.{AllByRecursion}
use Rattle.exi_schema.specs.Plain.{plain_particles}
use Rattle.exi_schema.specs.Told.{schema_of}
use Rattle.dialect_text.specs.Awaited.{IsAwaitedElement, HasMembers}
use Rattle.dialect_text.proofs.names.awaited_elements.Given as goal

abbrev pub invariant-loop-particle : goal.invariant-loop-particle
invariant-loop-particle l =
    AllByRecursion (IsAwaitedElement (schema_of l.schema) (plain_particles l.particles)) l.awaited.items
    × AllByRecursion (λ particle. HasMembers (schema_of l.schema) (plain_particles l.particles) particle.members l.awaited.items) (take l.particle-index (plain_particles l.particles))
