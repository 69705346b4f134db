use Rattle.std.proofs.Common.{◌≡◌, take}
use Rattle.schedules.specs.Steps.{watts_at}
use Rattle.schedules.proofs.offer.watts_at.Given as goal

abbrev pub invariant-loop-step : goal.invariant-loop-step
invariant-loop-step l = l.watts ≡ watts_at (take l.step-index l.steps) l.second
