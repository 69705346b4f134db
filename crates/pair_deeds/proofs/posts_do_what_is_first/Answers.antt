use Rattle.pair_deeds.proofs.Posts as posts
use Rattle.pair_deeds.proofs.posts_do_what_is_first.Goals as goal

pub returns : goal.returns
returns g c = posts.posts_do_what_is_first _
