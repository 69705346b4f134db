use Rattle.std.proofs.Common.{refl, get_or}
use Rattle.service_spec.specs.Services.{said_of}
use Rattle.service_spec.proofs.Choosing.{met_step}
use Rattle.service_spec.proofs.Blank.{blank}
use Rattle.service_spec.proofs.picking.is_met.Goals as goal

pub loop-parameter-preserved : goal.loop-parameter-preserved
loop-parameter-preserved c =
    met_step said_of c.args.parameters.now c.loop-parameter.parameter-index (said_of c.args.pair.now) (get_or c.args.parameters.now c.loop-parameter.parameter-index blank) blank
    c.loop-parameter-test.true refl c.if-meets.ensures c.loop-parameter.invariant
