use Rattle.schedules.proofs.OneOffer.{same_offers}
use Rattle.schedules.proofs.laws.one_offer.Goals as goal

pub returns : goal.returns
returns c = same_offers
