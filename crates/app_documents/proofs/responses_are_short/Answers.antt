use Rattle.app_documents.proofs.Short.{response_short}
use Rattle.app_documents.proofs.responses_are_short.Goals as goal

pub returns : goal.returns
returns c number code schema bits written = response_short number code schema bits written
