use Rattle.std.proofs.Common.{◌≡◌, ℕ, ◌+◌, ◌<◌, ◌≤◌, drop, length}
use Rattle.schedules.specs.Plans.{ArePlans, AreBest, IsBestOf, plan_at, steps_at}
use Rattle.schedules.proofs.rounds.lengthen.Given as goal

abbrev pub invariant-loop-at : goal.invariant-loop-at
invariant-loop-at l = record {
  plans : ArePlans l.departure l.limits l.plans;
  done : (most : ℕ) → AreBest l.departure most 0 l.limits l.fn.plans → (n : ℕ) → n < l.at → n ≤ length l.limits → IsBestOf l.departure (most + 1) (drop n l.limits) (steps_at l.plans n);
  same : (n : ℕ) → l.at ≤ n → plan_at l.plans n ≡ plan_at l.fn.plans n;
}
