use Rattle.exi_tables.proofs.Counted.{copies_in}
use Rattle.exi_tables.proofs.counts.copy_places.Goals as goal

pub returns-in-Some : goal.returns-in-Some
returns-in-Some c =
    let found = c.in-Some.ensures.lookup in
    copies_in c.args.declaration.now c.in-Complex.attributes c.in-Complex.particles c.args.particle c.in-Some.particle.now c.copies_of.result c.in-Complex.is found.3.0 found.1 c.copies_of.ensures
