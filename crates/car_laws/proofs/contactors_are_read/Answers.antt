use Rattle.car_laws.proofs.Live.{live_read}
use Rattle.car_laws.proofs.contactors_are_read.Goals as goal

pub returns : goal.returns
returns g c = live_read _
