use Rattle.car_spec.specs.Codecs.{codecs}
use Rattle.pair_deeds.proofs.Cars as cars
use Rattle.pair_deeds.proofs.cars_do_what_is_first.Goals as goal

pub returns-clause-acts : goal.returns-clause-acts
returns-clause-acts g c = cars.cars_do_what_is_first _

pub returns-clause-reads : goal.returns-clause-reads
returns-clause-reads g c = cars.cars_read_nothing_before (codecs g.D.CarCoded.offers g.D.CarCoded.responds g.D.CarCoded.reads g.D.CarCoded.encodes)

pub returns-clause-before : goal.returns-clause-before
returns-clause-before g c = cars.cars_dont_rest_before
