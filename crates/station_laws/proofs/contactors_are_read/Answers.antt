use Rattle.station_laws.proofs.Contactors.{contactors_are_read}
use Rattle.station_laws.proofs.contactors_are_read.Goals as goal

pub returns : goal.returns
returns c = contactors_are_read
