use Rattle.plan_keys.proofs.Chains.{none_left, ◌▸◌}
use Rattle.site_plan.specs.Keys.{post_rules}
use Rattle.site_plan.proofs.post.post_plan.Goals as goal

pub returns-clause-read : goal.returns-clause-read
unfolding post_rules
returns-clause-read c =
    c.number-tcp.ensures.said ▸ c.number-sdp.ensures.said ▸ c.mode-mode.ensures ▸ c.dialects.ensures.said ▸ c.evse_id.ensures.said
    ▸ c.bytes.ensures.said ▸ c.truth.ensures ▸ c.number.ensures.said ▸ c.tenths.ensures ▸ c.tenths-2.ensures
    ▸ c.tenths-3.ensures ▸ c.tenths-4.ensures ▸ c.tenths-5.ensures ▸ c.number-2.ensures.said ▸ none_left
