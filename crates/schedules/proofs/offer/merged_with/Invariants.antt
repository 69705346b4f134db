use Rattle.std.proofs.Common.{◌≡◌, ◌≤◌, ◌+◌, ◌∷◌, ◌++◌, drop, length}
use Rattle.schedules.specs.Turning.{merged}
use Rattle.schedules.proofs.offer.merged_with.Given as goal

abbrev pub invariant-loop-step : goal.invariant-loop-step
invariant-loop-step l = record {
  all : l.offer.items ++ merged l.held (drop l.step-index l.steps) ≡ record { start = 0; watts = l.watts } ∷ merged l.watts l.steps;
  few : length l.offer.items ≤ l.step-index + 1;
}
