use Rattle.std.proofs.Common.{◌≡◌, length, map, take}
use Rattle.schedule_answers.specs.Schedules.{step_of}
use Rattle.schedule_answers.proofs.tuples.steps_of.Given as goal

abbrev pub invariant-loop-entry : goal.invariant-loop-entry
invariant-loop-entry l = (l.steps.items ≡ map step_of (take l.entry-index l.entries)) × (length l.steps.items ≡ l.entry-index)
