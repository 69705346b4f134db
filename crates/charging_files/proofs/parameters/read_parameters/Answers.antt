use Rattle.std.proofs.Common.{arith}
use Rattle.std.proofs.lemmas.Grind.{common_steps}
use Rattle.std.proofs.lemmas.List.Elements.{All-push}
use Rattle.plan_keys.specs.Keys.{table_of}
use Rattle.service_spec.specs.Services.{said_of}
use Rattle.service_spec.specs.Wants.{IsPair}
use Rattle.charging_files.specs.Catalogues.{parameter_in}
use Rattle.charging_files.proofs.Lists.{said_more}
use Rattle.charging_files.proofs.parameters.read_parameters.Goals as goal

pub loop-item-preserved : goal.loop-item-preserved
loop-item-preserved c = record {
  number = omega arith;
  count = grind (arith, common_steps);
  few = grind (arith, common_steps);
  said = rw c.push.ensures.items (
      said_more said_of parameter_in table_of c.loop-item.parameters.items c.in_ok-parameter.parameter c.args.items.now c.loop-item.item-index c.item-item.result
      c.loop-item-test.true c.item-item.is c.loop-item.invariant.said c.in_ok-parameter.ensures.said
      );
  each = rw c.push.ensures.items (All-push IsPair c.loop-item.parameters.items c.in_ok-parameter.parameter c.loop-item.invariant.each c.in_ok-parameter.ensures.pair);
  wrong = grind (arith, common_steps);
}
