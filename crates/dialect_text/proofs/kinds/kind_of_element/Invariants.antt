use Rattle.std.proofs.Common.{◌≡◌, drop}
use Rattle.exi_schema.specs.Plain.{plain_particles}
use Rattle.dialect_text.specs.Dialect.{element_named}
use Rattle.dialect_text.proofs.kinds.kind_of_element.Given as goal

abbrev pub invariant-loop-particle : goal.invariant-loop-particle
invariant-loop-particle l = element_named (plain_particles (drop l.particle-index l.particles)) l.name ≡ element_named (plain_particles l.particles) l.name
