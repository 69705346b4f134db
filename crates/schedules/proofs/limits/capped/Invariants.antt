use Rattle.std.proofs.Common.{◌≡◌, ◌≤◌, take, length}
use Rattle.schedules.specs.Limits.{kept}
use Rattle.schedules.proofs.limits.capped.Given as goal

abbrev pub invariant-loop-entry : goal.invariant-loop-entry
invariant-loop-entry l = record {
  kept : l.limits.items ≡ kept l.cap l.end (take l.entry-index l.entries);
  few : length l.limits.items ≤ l.entry-index;
}
