use Rattle.std.proofs.Common.{refl}
use Rattle.v2gtp_frames.specs.Reading as reading
use Rattle.station_examples.proofs.sessions_charge.Goals as goal

pub returns-clause-status_limits : goal.returns-clause-status_limits
unfolding reading.whole_at
returns-clause-status_limits c = refl

pub returns-clause-measured_at_bound : goal.returns-clause-measured_at_bound
unfolding reading.whole_at
returns-clause-measured_at_bound c = refl

pub returns-clause-measured_above_ends : goal.returns-clause-measured_above_ends
unfolding reading.whole_at
returns-clause-measured_above_ends c = refl

pub returns-clause-lowered_stays : goal.returns-clause-lowered_stays
unfolding reading.whole_at
returns-clause-lowered_stays c = refl

pub returns-clause-lowered_ends : goal.returns-clause-lowered_ends
unfolding reading.whole_at
returns-clause-lowered_ends c = refl

pub returns-clause-opens_before_failed : goal.returns-clause-opens_before_failed
unfolding reading.whole_at
returns-clause-opens_before_failed c = refl

pub returns-clause-failed_open_drops_reply : goal.returns-clause-failed_open_drops_reply
unfolding reading.whole_at
returns-clause-failed_open_drops_reply c = refl

pub returns-clause-stop_opens : goal.returns-clause-stop_opens
unfolding reading.whole_at
returns-clause-stop_opens c = refl

pub returns-clause-pre_charge_limits : goal.returns-clause-pre_charge_limits
unfolding reading.whole_at
returns-clause-pre_charge_limits c = refl

pub returns-clause-failed_send_ends : goal.returns-clause-failed_send_ends
unfolding reading.whole_at
returns-clause-failed_send_ends c = refl

pub returns-clause-demand_is_cut : goal.returns-clause-demand_is_cut
unfolding reading.whole_at
returns-clause-demand_is_cut c = refl

pub returns-clause-renewal_is_told : goal.returns-clause-renewal_is_told
unfolding reading.whole_at
returns-clause-renewal_is_told c = refl

pub returns-clause-stop_is_told_first : goal.returns-clause-stop_is_told_first
unfolding reading.whole_at
returns-clause-stop_is_told_first c = refl

pub returns-clause-wrong_unit_opens : goal.returns-clause-wrong_unit_opens
unfolding reading.whole_at
returns-clause-wrong_unit_opens c = refl
