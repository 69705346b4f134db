use Rattle.std.proofs.Common.{map}
use Rattle.service_spec.specs.Services.{said_of, said_set_of}
use Rattle.service_spec.proofs.Choosing.{LeavesChoice}
use Rattle.service_spec.proofs.picking.pick.Given as goal

abbrev pub invariant-loop-set : goal.invariant-loop-set
invariant-loop-set l = LeavesChoice (map said_of l.want) said_set_of l.sets l.set-index
