use Rattle.std.proofs.Common.{◌≡◌, ◌<◌, drop}
use Rattle.std.specs.Prelude.{slice_get}
use Rattle.exi_schema.specs.Counts.{element_total}
use Rattle.exi_schema.specs.Plain.{plain_particles}
use Rattle.exi_schema.specs.Offers.{element_steps}
use Rattle.exi_schema.proofs.walk.element_at.Given as goal

abbrev pub invariant-loop-at : goal.invariant-loop-at
invariant-loop-at l =
    (l.left < element_total l.copies (drop l.at (plain_particles l.particles)))
    × (slice_get (element_steps l.here l.attributes l.at l.copies (drop l.at (plain_particles l.particles))) l.left
    ≡ slice_get (element_steps l.here l.attributes l.here.particle l.here.copies (drop l.here.particle (plain_particles l.particles))) l.code)
