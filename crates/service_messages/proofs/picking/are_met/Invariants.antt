use Rattle.std.proofs.Common.{◌↔◌, map, drop}
use Rattle.service_spec.specs.Services.{said_of, Fits}
use Rattle.service_messages.specs.Offers.{said_in}
use Rattle.service_messages.proofs.picking.are_met.Given as goal

abbrev pub invariant-loop-pair : goal.invariant-loop-pair
invariant-loop-pair l = Fits (map said_of l.want) (map said_in l.parameters) ↔ Fits (map said_of (drop l.pair-index l.want)) (map said_in l.parameters)
