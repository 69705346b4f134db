use Rattle.own_codecs.proofs.Weighing.{weighs_right}
use Rattle.own_codecs.proofs.codecs_weigh_right.Goals as goal

pub returns : goal.returns
returns g = weighs_right
