use Rattle.matched_pairs.proofs.Requested as does
use Rattle.matched_pairs.proofs.acting.posts_do.Goals as goal

pub returns : goal.returns
returns g c = does.posts_do _ _
