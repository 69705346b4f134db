use Rattle.std.proofs.Common.{arith, refl, get_or, ap, [], ◌∷◌, length, length-append}
use Rattle.std.proofs.lemmas.List.Elements.{All-push}
use Rattle.service_messages.specs.Messages.{parameter_of}
use Rattle.service_messages.specs.Held.{IsHeldParameter}
use Rattle.service_messages.proofs.Lists.{blank, made_more}
use Rattle.service_messages.proofs.messages.parameters_of.Goals as goal

pub loop-pair-preserved : goal.loop-pair-preserved
loop-pair-preserved c = record {
  items = rw c.push.ensures.items (
      made_more parameter_of c.loop-pair.parameters.items c.parameter_of.result c.args.pairs.now c.loop-pair.pair-index (get_or c.args.pairs.now c.loop-pair.pair-index blank) blank
      c.loop-pair-test.true refl
      c.loop-pair.invariant.items c.parameter_of.ensures.parameter
      );
  count = omega (arith, ap length c.push.ensures.items, length-append c.loop-pair.parameters.items (c.parameter_of.result ∷ []), c.loop-pair.invariant.count);
  held = rw c.push.ensures.items (All-push IsHeldParameter c.loop-pair.parameters.items c.parameter_of.result c.loop-pair.invariant.held c.parameter_of.ensures.held);
}
