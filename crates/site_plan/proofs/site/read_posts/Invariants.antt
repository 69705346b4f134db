use Rattle.std.proofs.Common.{◌≡◌, ◌+◌, take, drop, map, All}
use Rattle.std.specs.Prelude.{MatchResult}
use Rattle.std.specs.List.{AllZip}
use Rattle.arrayvec.specs.ArrayVec.{array_vec_len}
use Rattle.session_words.specs.Plans.{IsPostPlan}
use Rattle.plan_keys.specs.Keys.{Holds, table_of}
use Rattle.plan_keys.specs.Faults.{each_fault, Tells}
use Rattle.site_plan.specs.Plans.{post_file, post_wrong, post_unknown}
use Rattle.site_plan.proofs.site.read_posts.Given as goal

abbrev pub invariant-loop-item : goal.invariant-loop-item
invariant-loop-item l = record {
  number : l.number ≡ l.item-index + 1;
  within : All IsPostPlan l.plans.items;
  count : array_vec_len l.plans ≡ l.item-index;
  plans : AllZip (Holds post_file) (map table_of (take l.item-index l.items)) l.plans.items;
  wrong : each_fault post_wrong 1 (map table_of l.items) ≡ each_fault post_wrong l.number (map table_of (drop l.item-index l.items));
  unknown : MatchResult l.unknown
      (λ _. each_fault post_unknown 1 (map table_of l.items) ≡ each_fault post_unknown l.number (map table_of (drop l.item-index l.items)))
      (λ fault. Tells fault (each_fault post_unknown 1 (map table_of l.items)));
}
