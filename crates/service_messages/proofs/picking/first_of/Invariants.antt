use Rattle.std.proofs.Common.{map}
use Rattle.service_spec.specs.Services.{said_of}
use Rattle.service_messages.specs.Offers.{said_set_in}
use Rattle.service_spec.proofs.Choosing.{LeavesChoice}
use Rattle.service_messages.proofs.picking.first_of.Given as goal

abbrev pub invariant-loop-set : goal.invariant-loop-set
invariant-loop-set l = LeavesChoice (map said_of l.want) said_set_in l.sets l.set-index
