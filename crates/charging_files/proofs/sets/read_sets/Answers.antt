use Rattle.std.proofs.Common.{arith}
use Rattle.std.proofs.lemmas.Grind.{common_steps}
use Rattle.std.proofs.lemmas.List.Elements.{All-push}
use Rattle.plan_keys.specs.Keys.{table_of}
use Rattle.service_spec.specs.Services.{said_set_of}
use Rattle.service_spec.specs.Sets.{IsOffered}
use Rattle.charging_files.specs.Catalogues.{set_in}
use Rattle.charging_files.proofs.Lists.{said_more}
use Rattle.charging_files.proofs.sets.read_sets.Goals as goal

pub loop-item-preserved : goal.loop-item-preserved
loop-item-preserved c = record {
  number = omega arith;
  count = grind (arith, common_steps);
  few = grind (arith, common_steps);
  said = rw c.push.ensures.items (
      said_more said_set_of set_in table_of c.loop-item.sets.items c.in_ok-set.set c.args.items.now c.loop-item.item-index c.item-item.result
      c.loop-item-test.true c.item-item.is c.loop-item.invariant.said c.in_ok-set.ensures.said
      );
  each = rw c.push.ensures.items (All-push IsOffered c.loop-item.sets.items c.in_ok-set.set c.loop-item.invariant.each c.in_ok-set.ensures.offered);
  wrong = grind (arith, common_steps);
}
