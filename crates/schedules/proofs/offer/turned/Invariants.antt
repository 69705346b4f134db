use Rattle.std.proofs.Common.{◌≡◌, ◌++◌, take}
use Rattle.schedules.specs.Turning.{ahead, past}
use Rattle.schedules.proofs.offer.turned.Given as goal

abbrev pub invariant-loop-step : goal.invariant-loop-step
invariant-loop-step l = l.turned.items ≡ ahead l.moment l.calendar ++ past l.moment (take l.step-index l.calendar)
