-- Own: the car of a session that is generated: the one without a file, but for two numbers that are drawn.
use Rattle.std.specs.Prelude.{◌≡◌, ℕ, ◌+◌, ◌*◌, false}
use Rattle.session_words.specs.declared.plan.CarPlan.{CarPlan}
use Rattle.site_plan.specs.Plans.{IsFixedCar}
use Rattle.pipe_spec.specs.Numbers.{next, drawn}

-- 1 to 200 charging replies
abbrev pub drawn_cycles : ℕ → ℕ
drawn_cycles x = 1 + drawn 200 x

-- 200 V to 399 V, in tenths of a volt
abbrev pub drawn_voltage : ℕ → ℕ
drawn_voltage x = 2000 + 10 * drawn 200 (next x)

-- the car whose numbers are drawn behind this one
pub record IsDrawnCar (x : ℕ) (plan : CarPlan) : Type 0 where
  pub usual : CarPlan
  pub usual_is : IsFixedCar false usual
  pub plan_is : plan ≡ record usual { cycles = drawn_cycles x; target_voltage = drawn_voltage x }
