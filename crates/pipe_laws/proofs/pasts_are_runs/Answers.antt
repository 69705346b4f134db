use Rattle.pipe_laws.proofs.StationPasts as station
use Rattle.pipe_laws.proofs.CarPasts as car
use Rattle.pipe_laws.proofs.pasts_are_runs.Goals as goal

pub returns-clause-station : goal.returns-clause-station
returns-clause-station g c = station.station_pasts_are_runs _ _

pub returns-clause-car : goal.returns-clause-car
returns-clause-car g c = car.car_pasts_are_runs _ _
