use Rattle.car_spec.specs.Codecs.{codecs}
use Rattle.pair_deeds.proofs.Cars as cars
use Rattle.pair_deeds.proofs.cars_read_words.Goals as goal

pub returns-clause-waits : goal.returns-clause-waits
returns-clause-waits g c = cars.cars_wait

pub returns-clause-reads : goal.returns-clause-reads
returns-clause-reads g c = cars.cars_read_words (codecs g.D.CarCoded.offers g.D.CarCoded.responds g.D.CarCoded.reads g.D.CarCoded.encodes)

pub returns-clause-before : goal.returns-clause-before
returns-clause-before g c = cars.cars_dont_rest_at_words
