use Rattle.own_codecs.proofs.Writing.{writes_right}
use Rattle.own_codecs.proofs.codecs_write_right.Goals as goal

pub returns : goal.returns
returns g = writes_right
