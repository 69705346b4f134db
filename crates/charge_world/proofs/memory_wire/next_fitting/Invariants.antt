use Rattle.charge_world.specs.Scripting.{NoneFits}
use Rattle.charge_world.proofs.memory_wire.next_fitting.Given as goal

abbrev pub invariant-loop-k : goal.invariant-loop-k
invariant-loop-k l = NoneFits l.posts l.script l.at l.k
