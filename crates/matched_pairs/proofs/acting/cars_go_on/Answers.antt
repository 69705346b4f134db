use Rattle.matched_pairs.proofs.CarActs as cars
use Rattle.matched_pairs.proofs.acting.cars_go_on.Goals as goal

pub returns : goal.returns
returns g c = cars.cars_go_on _ _
