use Rattle.service_spec.specs.Services.{said_of}
use Rattle.service_spec.proofs.Choosing.{met_step}
use Rattle.service_messages.specs.Offers.{said_in}
use Rattle.service_messages.proofs.picking.is_met.Goals as goal

pub loop-parameter-preserved : goal.loop-parameter-preserved
loop-parameter-preserved c =
    met_step said_in c.args.parameters.now c.loop-parameter.parameter-index (said_of c.args.pair.now) c.parameter-item.result c.parameter-item.result
    c.loop-parameter-test.true c.parameter-item.is c.if-meets.ensures c.loop-parameter.invariant
