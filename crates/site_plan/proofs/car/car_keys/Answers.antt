use Rattle.std.proofs.Common.{◌∙◌}
use Rattle.plan_keys.proofs.Chains.{none_left, in_words, and_judged, ◌▸◌}
use Rattle.site_plan.specs.Keys.{car_rules}
use Rattle.site_plan.proofs.car.car_keys.Goals as goal

pub returns-clause-read : goal.returns-clause-read
unfolding car_rules
returns-clause-read c = and_judged c.perhaps-port.ensures.said (
    c.number-sdp.ensures.said ▸ c.tcp_port-tcp.ensures.said ▸ c.number-turns.ensures.said ▸ c.mode-mode.ensures ▸ c.dialects.ensures.said
    ▸ in_words c.six.ensures c.bytes.ensures.said ▸ c.number.ensures.said ▸ c.tenths.ensures ▸ c.tenths-2.ensures ▸ c.tenths-3.ensures
    ▸ c.tenths-4.ensures ▸ c.tenths-5.ensures ▸ c.number-2.ensures.said ▸ c.number-3.ensures.said ▸ c.number-4.ensures.said
    ▸ c.number-5.ensures.said ▸ c.stop.ensures ▸ in_words (c.list_of.ensures ∙ c.as_slice.ensures.value) c.bytes-2.ensures.said ▸ none_left)
