use Rattle.std.proofs.Common.{refl, map, get_or}
use Rattle.service_spec.specs.Services.{said_of}
use Rattle.service_messages.specs.Offers.{said_in}
use Rattle.service_spec.proofs.Choosing.{fits_step, fits_fails}
use Rattle.service_messages.proofs.Blank.{blank}
use Rattle.service_messages.proofs.picking.are_met.Goals as goal

pub loop-pair-preserved : goal.loop-pair-preserved
loop-pair-preserved c =
    fits_step said_of c.args.want.now c.loop-pair.pair-index (map said_in c.args.parameters.now) (get_or c.args.want.now c.loop-pair.pair-index blank) blank
    c.loop-pair-test.true refl (c.if-not-is_met.ensures.0 refl) c.loop-pair.invariant

pub returns-then-not-is_met : goal.returns-then-not-is_met
returns-then-not-is_met c =
    fits_fails said_of c.args.want.now c.loop-pair.pair-index (map said_in c.args.parameters.now) (get_or c.args.want.now c.loop-pair.pair-index blank) blank
    c.loop-pair-test.true refl c.if-not-is_met.ensures c.loop-pair.invariant
