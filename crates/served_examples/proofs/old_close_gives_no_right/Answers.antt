use Rattle.served_examples.proofs.OldClose.{old_close}
use Rattle.served_examples.proofs.old_close_gives_no_right.Goals as goal

pub returns : goal.returns
returns g c = old_close _
