use Rattle.document_laws.proofs.Names.{offers_once}
use Rattle.document_laws.proofs.laws.distinct_offers.Goals as goal

pub returns : goal.returns
returns c s here at = offers_once s here at
