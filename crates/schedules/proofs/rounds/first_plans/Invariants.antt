use Rattle.std.proofs.Common.{◌≡◌, ℕ, ◌<◌, drop, length}
use Rattle.schedules.specs.Plans.{IsPlan, IsBestOf, plan_at, steps_at}
use Rattle.schedules.proofs.rounds.first_plans.Given as goal

abbrev pub invariant-loop-at : goal.invariant-loop-at
invariant-loop-at l = record {
  even : length l.plans.items ≡ l.at;
  each : (n : ℕ) → n < l.at → IsPlan l.departure (drop n l.limits) (plan_at l.plans.items n).energy (steps_at l.plans.items n);
  best : (n : ℕ) → n < l.at → IsBestOf l.departure 1 (drop n l.limits) (steps_at l.plans.items n);
}
