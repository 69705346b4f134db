use Rattle.matched_pairs.proofs.PostsDo as posts
use Rattle.matched_pairs.proofs.acting.posts_act.Goals as goal

pub returns : goal.returns
returns g c = posts.posts_act _ _
