use Rattle.own_codecs.proofs.Writing.{no_fault}
use Rattle.own_codecs.proofs.codecs_find_no_fault.Goals as goal

pub returns : goal.returns
returns g = no_fault
