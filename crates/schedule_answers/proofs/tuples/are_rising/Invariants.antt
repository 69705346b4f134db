use Rattle.std.proofs.Common.{◌≡◌, drop}
use Rattle.schedule_answers.specs.Usable.{rises}
use Rattle.schedule_answers.proofs.tuples.are_rising.Given as goal

abbrev pub invariant-loop-step : goal.invariant-loop-step
invariant-loop-step l = rises l.least l.end (drop l.step-index l.steps) ≡ rises 0 l.end l.steps
