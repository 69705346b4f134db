use Rattle.tree_text.proofs.Pieces.{all_behind, digit_put, byte_more, no_bytes}
use Rattle.std.proofs.Common.{◌∙◌}
use Rattle.tree_text.proofs.values.put_bytes.Goals as goal

pub loop-byte-preserved : goal.loop-byte-preserved
loop-byte-preserved c = (
  all_behind _ _ _ c.in-Some.ensures c.loop-byte.invariant.0,
  byte_more _ _ _ _ _ c.in-Some.byte c.in-Some.ensures
      (digit_put _ _ _ _ c.lower_digit.ensures.digit c.lower_digit.ensures.ascii c.in_ok-push.ensures.ascii c.in_ok-push.ensures.bytes)
      (digit_put _ _ _ _ c.lower_digit-in-Some.ensures.digit c.lower_digit-in-Some.ensures.ascii c.in_ok-push-2.ensures.ascii c.in_ok-push-2.ensures.bytes)
      ∙ c.loop-byte.invariant.1,
)

pub returns : goal.returns
returns c = no_bytes _ _ _ c.in_default.ensures.0 c.loop-byte.invariant.1
