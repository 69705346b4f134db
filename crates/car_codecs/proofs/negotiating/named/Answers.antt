use Rattle.std.proofs.Common.{◌+◌, sym, ◌∙◌}
use Rattle.charge_world.specs.declared.offer.Dialect.TheVariants.{Iso}
use Rattle.car_codecs.proofs.Loops.{named_more}
use Rattle.car_codecs.proofs.negotiating.named.Goals as goal

pub loop-i-preserved : goal.loop-i-preserved
loop-i-preserved c =
    sym (named_more (c.loop-i.i + 1) c.args.dialects.now c.loop-i.i c.args.schema Iso c.loop-i-test.true c.if-schema-i.false) ∙ c.loop-i.invariant
