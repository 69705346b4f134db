use Rattle.std.proofs.Common.{◌≡◌, ◌∷◌, take}
use Rattle.schedules.proofs.plan.followed.Given as goal

abbrev pub invariant-loop-step : goal.invariant-loop-step
invariant-loop-step l = l.steps.items ≡ l.fn.first ∷ take l.step-index l.others
