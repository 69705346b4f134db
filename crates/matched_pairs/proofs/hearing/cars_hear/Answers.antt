use Rattle.matched_pairs.proofs.CarsHear as cars
use Rattle.matched_pairs.proofs.hearing.cars_hear.Goals as goal

pub returns : goal.returns
returns g c = cars.cars_hear _ _
