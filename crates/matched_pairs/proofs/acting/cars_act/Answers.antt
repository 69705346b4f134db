use Rattle.matched_pairs.proofs.CarsDo as cars
use Rattle.matched_pairs.proofs.acting.cars_act.Goals as goal

pub returns : goal.returns
returns g c = cars.cars_act _ _
