use Rattle.failed_replies.proofs.Opened.{runs_reply_opened}
use Rattle.failed_replies.proofs.no_failed_reply_while_live.Goals as goal

pub returns : goal.returns
returns g c = runs_reply_opened _
