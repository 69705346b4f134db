use Rattle.matched_pairs.proofs.Keeps as keeps
use Rattle.matched_pairs.proofs.acting.posts_keep.Goals as goal

pub returns : goal.returns
returns g c = keeps.posts_keep _ _
