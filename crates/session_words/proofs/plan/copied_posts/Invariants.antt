use Rattle.std.proofs.Common.{◌≡◌, ◌≤◌, take}
use Rattle.arrayvec.specs.ArrayVec.{array_vec_len}
use Rattle.session_words.proofs.plan.copied_posts.Given as goal

abbrev pub invariant-loop-plan : goal.invariant-loop-plan
invariant-loop-plan l = record {
  items : l.copies.items ≡ take l.plan-index l.plans.items;
  count : array_vec_len l.copies ≡ l.plan-index;
  fits : l.plan-index-end ≤ 8;
}
