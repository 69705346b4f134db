use Rattle.car_closings.proofs.Closes.{closes_by_bytes}
use Rattle.car_closings.proofs.closes_by_bytes.Goals as goal

pub returns : goal.returns
returns g c = closes_by_bytes _
