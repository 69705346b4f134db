use Rattle.matched_pairs.proofs.Closing as closing
use Rattle.matched_pairs.proofs.timing.closes_are_heard.Goals as goal

pub returns : goal.returns
returns g c = closing.closes_are_heard _ _
