use Rattle.std.proofs.Common.{◌≡◌, ◌+◌, drop}
use Rattle.exi_schema.specs.Counts.{element_total}
use Rattle.exi_schema.specs.Plain.{plain_particles}
use Rattle.exi_schema.proofs.walk.element_count.Given as goal

abbrev pub invariant-loop-particle : goal.invariant-loop-particle
invariant-loop-particle l = l.count + element_total l.passed (plain_particles (drop l.particle-index l.particles)) ≡ element_total l.copies (plain_particles l.particles)
