use Rattle.matched_pairs.proofs.PostActs as posts
use Rattle.matched_pairs.proofs.acting.posts_go_on.Goals as goal

pub returns : goal.returns
returns g c = posts.posts_go_on _ _
