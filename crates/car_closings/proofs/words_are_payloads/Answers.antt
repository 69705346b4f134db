use Rattle.car_closings.proofs.Streams.{words_read_in_order}
use Rattle.car_closings.proofs.words_are_payloads.Goals as goal

pub returns : goal.returns
returns g c = words_read_in_order _
