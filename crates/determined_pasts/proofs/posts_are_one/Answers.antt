use Rattle.determined_pasts.proofs.Once.{posts_once}
use Rattle.determined_pasts.proofs.posts_are_one.Goals as goal

pub returns : goal.returns
returns g c = posts_once _ g.met.R.ToldReader.determined g.met.R.ToldReader.responds_once g.met.R.ToldReader.watts_once
