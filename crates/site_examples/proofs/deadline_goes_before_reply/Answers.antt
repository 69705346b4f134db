use Rattle.site_examples.proofs.TwoPosts.{deadline_goes_first}
use Rattle.site_examples.proofs.deadline_goes_before_reply.Goals as goal

pub returns : goal.returns
returns g c = deadline_goes_first _
