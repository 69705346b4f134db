use Rattle.trace_audit.specs.Shares.{AsksOf}
use Rattle.trace_audit.proofs.shares.asks_of.Given as goal

abbrev pub invariant-loop-i : goal.invariant-loop-i
invariant-loop-i l = AsksOf l.limit l.seats l.i l.shares
