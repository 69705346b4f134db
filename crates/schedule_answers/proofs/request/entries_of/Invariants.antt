use Rattle.std.proofs.Common.{◌≡◌, length, map, take}
use Rattle.schedule_answers.specs.Requests.{entry_of}
use Rattle.schedule_answers.proofs.request.entries_of.Given as goal

abbrev pub invariant-loop-step : goal.invariant-loop-step
invariant-loop-step l = (l.entries.items ≡ map entry_of (take l.step-index l.steps)) × (length l.entries.items ≡ l.step-index)
