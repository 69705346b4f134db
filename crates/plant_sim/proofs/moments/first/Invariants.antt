use Rattle.plant_sim.specs.Search.{FoundBelow}
use Rattle.plant_sim.proofs.moments.first.Given as goal

abbrev pub invariant-loop-place : goal.invariant-loop-place
invariant-loop-place l = FoundBelow l.moments l.place l.found
