use Rattle.std.proofs.Common.{◌≡◌, ◌≤◌, take, length}
use Rattle.schedules.specs.Turning.{ahead}
use Rattle.schedules.proofs.offer.ahead_of.Given as goal

abbrev pub invariant-loop-step : goal.invariant-loop-step
invariant-loop-step l = record {
  items : l.found.items ≡ ahead l.moment (take l.step-index l.calendar);
  few : length l.found.items ≤ l.step-index;
}
