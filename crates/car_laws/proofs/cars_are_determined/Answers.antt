use Rattle.car_laws.proofs.Determined.{determined}
use Rattle.car_laws.proofs.cars_are_determined.Goals as goal

pub returns : goal.returns
returns g c = determined _
