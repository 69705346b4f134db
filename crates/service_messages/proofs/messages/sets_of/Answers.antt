use Rattle.std.proofs.Common.{arith, ap, [], ◌∷◌, length, length-append}
use Rattle.std.proofs.lemmas.List.Elements.{All-push}
use Rattle.service_messages.specs.Messages.{set_of}
use Rattle.service_messages.specs.Held.{IsHeldSet}
use Rattle.service_messages.proofs.Lists.{made_more}
use Rattle.service_messages.proofs.messages.sets_of.Goals as goal

pub loop-set-preserved : goal.loop-set-preserved
loop-set-preserved c = record {
  items = rw c.push.ensures.items (
      made_more set_of c.loop-set.written.items c.set_of.result c.args.sets.now c.loop-set.set-index c.set-item.result c.set-item.result c.loop-set-test.true c.set-item.is
      c.loop-set.invariant.items c.set_of.ensures.set
      );
  count = omega (arith, ap length c.push.ensures.items, length-append c.loop-set.written.items (c.set_of.result ∷ []), c.loop-set.invariant.count);
  held = rw c.push.ensures.items (All-push IsHeldSet c.loop-set.written.items c.set_of.result c.loop-set.invariant.held c.set_of.ensures.held);
}
