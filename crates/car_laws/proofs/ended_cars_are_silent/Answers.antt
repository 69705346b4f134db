use Rattle.car_laws.proofs.Silent.{before_step}
use Rattle.car_laws.proofs.ended_cars_are_silent.Goals as goal

pub returns : goal.returns
returns g c = before_step _
