use Rattle.served_examples.proofs.LiveResponse.{live_response}
use Rattle.served_examples.proofs.no_response_while_live.Goals as goal

pub returns : goal.returns
returns g c = live_response _
