use Rattle.std.proofs.Common.{◌↔◌, map, drop}
use Rattle.service_spec.specs.Services.{said_of, IsMet}
use Rattle.service_messages.specs.Offers.{said_in}
use Rattle.service_messages.proofs.picking.is_met.Given as goal

abbrev pub invariant-loop-parameter : goal.invariant-loop-parameter
invariant-loop-parameter l = IsMet (map said_in l.parameters) (said_of l.pair) ↔ IsMet (map said_in (drop l.parameter-index l.parameters)) (said_of l.pair)
