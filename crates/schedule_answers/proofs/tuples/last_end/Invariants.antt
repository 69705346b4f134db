use Rattle.std.proofs.Common.{◌≡◌, take}
use Rattle.schedule_answers.specs.Schedules.{last_end}
use Rattle.schedule_answers.proofs.tuples.last_end.Given as goal

abbrev pub invariant-loop-entry : goal.invariant-loop-entry
invariant-loop-entry l = l.end ≡ last_end (take l.entry-index l.entries)
