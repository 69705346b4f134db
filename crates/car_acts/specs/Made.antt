-- Own: a car in memory.
use Rattle.std.specs.Prelude.{◌≡◌, None}
use Rattle.session_words.specs.declared.plan.CarPlan.{CarPlan}
use Rattle.car_codec.specs.Requests.{IsPlan}
use Rattle.car_spec.specs.States.{fresh}
use Rattle.car_acts.specs.declared.driver.Driver.{Driver}

-- it heard nothing yet, and was made by this plan, which is within its rules
pub record IsMadeOf (plan : CarPlan) (driver : Driver) : Type 0 where
  pub plan_is : driver.plan ≡ plan
  pub rules : IsPlan plan
  pub car_is : driver.car ≡ fresh
  pub report_is : driver.report ≡ None
