use Rattle.car_laws.proofs.Closing.{closes_by_words}
use Rattle.car_laws.proofs.closes_by_words.Goals as goal

pub returns : goal.returns
returns g c = closes_by_words _
