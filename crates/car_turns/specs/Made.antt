-- Own: a car in memory.
use Rattle.car_codec.specs.Requests.{IsPlan}
use Rattle.car_spec.specs.Next.{IsQuiet}
use Rattle.car_acts.specs.declared.driver.Driver.{Driver}
use Rattle.car_acts.specs.Sound.{IsSound}
pub use Rattle.car_acts.specs.Made.{IsMadeOf}

-- its codecs can spell what it says, and it has nothing left to do
pub record IsReady (driver : Driver) : Type 0 where
  pub rules : IsPlan driver.plan
  pub sound : IsSound driver.plan driver.car
  pub quiet : IsQuiet driver.plan driver.car
