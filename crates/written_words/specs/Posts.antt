-- Own: what bounds the replies of a post.
use Rattle.std.specs.Prelude.{ℕ, ◌≤◌}
use Rattle.session_words.specs.declared.facts.Facts.{Facts}
use Rattle.session_words.specs.declared.plan.PostPlan.{PostPlan}
use Rattle.session_rules.specs.declared.stage.Stage.{Stage}

-- what tenths of a plan and of facts are
abbrev pub IsTenths : ℕ → Type 0
IsTenths n = n ≤ 30000

-- what the types of a post bound, and watts that it may tell
pub record ArePostBounds (s : Stage) (facts : Facts) (plan : PostPlan) (shown : ℕ) : Type 0 where
  pub voltage : IsTenths facts.voltage
  pub current : IsTenths facts.current
  pub max_voltage : IsTenths plan.max_voltage
  pub min_voltage : IsTenths plan.min_voltage
  pub max_current : IsTenths plan.max_current
  pub min_current : IsTenths plan.min_current
  pub ripple : IsTenths plan.ripple
  pub told : s.told ≤ 1000000
  pub most : shown ≤ 1000000
