use Rattle.std.proofs.Common.{◌≡◌, ◌≤◌, ◌*◌, take}
use Rattle.std.specs.List.{sum_by}
use Rattle.trace_audit.specs.Shares.{told_at}
use Rattle.trace_audit.proofs.shares.told_to.Given as goal

abbrev pub invariant-loop-i : goal.invariant-loop-i
invariant-loop-i l = record {
  sum : l.sum ≡ sum_by told_at (take l.i l.seats);
  few : l.sum ≤ l.i * 4294967296;
}
