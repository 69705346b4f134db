use Rattle.pair_readings.proofs.Readings as readings
use Rattle.pair_readings.proofs.cars_go_on.Goals as goal

pub returns : goal.returns
returns c = readings.cars_go_on
