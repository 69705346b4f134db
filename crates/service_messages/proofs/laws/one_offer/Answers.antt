use Rattle.service_messages.proofs.OneOffer.{one_tree_offer, one_payload_offer}
use Rattle.service_messages.proofs.laws.one_offer.Goals as goal

pub returns : goal.returns
returns c = record { trees = one_tree_offer; payloads = one_payload_offer }
