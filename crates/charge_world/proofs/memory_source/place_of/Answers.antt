use Rattle.std.proofs.Common.{sym}
use Rattle.charge_world.proofs.Files.{named_here, named_nowhere}
use Rattle.charge_world.proofs.memory_source.place_of.Goals as goal

pub returns-then-eq : goal.returns-then-eq
returns-then-eq c =
    let eq = rw c.bytes.ensures at c.if-eq.ensures in
    named_here c.args.files.now c.loop-i.i c.index-files-i.result c.args.name.now c.loop-i-test.true c.index-files-i.is (sym eq) c.loop-i.invariant

pub returns : goal.returns
returns c = named_nowhere c.args.files.now c.loop-i.i c.args.name.now c.loop-i-test.false c.loop-i.invariant
