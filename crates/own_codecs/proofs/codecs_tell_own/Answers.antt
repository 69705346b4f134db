use Rattle.own_codecs.proofs.Telling.{tells_own}
use Rattle.own_codecs.proofs.codecs_tell_own.Goals as goal

pub returns : goal.returns
returns g = tells_own
