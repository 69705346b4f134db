use Rattle.std.proofs.Common.{arith}
use Rattle.std.proofs.lemmas.Grind.{common_steps}
use Rattle.std.proofs.lemmas.List.{map_more}
use Rattle.std.proofs.lemmas.List.Elements.{All-push}
use Rattle.std.proofs.lemmas.Slice.Zip.{all_zipped_more}
use Rattle.session_words.specs.Plans.{IsPostPlan}
use Rattle.plan_keys.specs.Keys.{Holds, table_of}
use Rattle.site_plan.specs.Plans.{post_file}
use Rattle.site_plan.proofs.site.read_posts.Goals as goal

pub loop-item-preserved : goal.loop-item-preserved
loop-item-preserved c = record {
  number = omega arith;
  within = rw c.push.ensures.items (All-push IsPostPlan _ _ c.loop-item.invariant.within c.in_ok-plan.ensures.within);
  count = grind (arith, common_steps);
  plans =
      let zipped = all_zipped_more (Holds post_file) _ _ _ _ c.loop-item.invariant.plans c.in_ok-plan.ensures.plan in
      let more = map_more table_of c.args.items.now c.loop-item.item-index c.item-item.result (omega arith) in
      rw (more, ← c.item-item.is, c.push.ensures.items) zipped;
  wrong = grind (arith, common_steps);
  unknown = grind (arith, common_steps);
}
