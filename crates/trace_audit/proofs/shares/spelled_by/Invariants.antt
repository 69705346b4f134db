use Rattle.std.proofs.Common.{◌≡◌, ◌-◌, ◌^◌, min, take}
use Rattle.std.specs.List.{sum_by}
use Rattle.trace_audit.specs.Shares.{spelled_at}
use Rattle.trace_audit.proofs.shares.spelled_by.Given as goal

abbrev pub invariant-loop-i : goal.invariant-loop-i
invariant-loop-i l = l.sum ≡ min (sum_by spelled_at (take l.i l.seats)) (2 ^ 64 - 1)
