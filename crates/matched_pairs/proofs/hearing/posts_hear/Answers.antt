use Rattle.matched_pairs.proofs.PostsHear as posts
use Rattle.matched_pairs.proofs.hearing.posts_hear.Goals as goal

pub returns : goal.returns
returns g c = posts.posts_hear _ _
