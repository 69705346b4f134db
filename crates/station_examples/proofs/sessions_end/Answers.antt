use Rattle.std.proofs.Common.{refl}
use Rattle.v2gtp_frames.specs.Reading as reading
use Rattle.station_examples.proofs.sessions_end.Goals as goal

pub returns-clause-emergency_opens : goal.returns-clause-emergency_opens
unfolding reading.whole_at
returns-clause-emergency_opens c = refl

pub returns-clause-nothing_behind_end : goal.returns-clause-nothing_behind_end
unfolding reading.whole_at
returns-clause-nothing_behind_end c = refl

pub returns-clause-failed_open_ends_once : goal.returns-clause-failed_open_ends_once
unfolding reading.whole_at
returns-clause-failed_open_ends_once c = refl

pub returns-clause-failed_open_is_repeated : goal.returns-clause-failed_open_is_repeated
unfolding reading.whole_at
returns-clause-failed_open_is_repeated c = refl

pub returns-clause-failed_open_is_repeated_again : goal.returns-clause-failed_open_is_repeated_again
unfolding reading.whole_at
returns-clause-failed_open_is_repeated_again c = refl

pub returns-clause-taken_open_is_done : goal.returns-clause-taken_open_is_done
unfolding reading.whole_at
returns-clause-taken_open_is_done c = refl

pub returns-clause-invalid_ends_checked : goal.returns-clause-invalid_ends_checked
unfolding reading.whole_at
returns-clause-invalid_ends_checked c = refl

pub returns-clause-warning_opens_charging : goal.returns-clause-warning_opens_charging
unfolding reading.whole_at
returns-clause-warning_opens_charging c = refl

pub returns-clause-invalid_before_check_waits : goal.returns-clause-invalid_before_check_waits
unfolding reading.whole_at
returns-clause-invalid_before_check_waits c = refl

pub returns-clause-pilot_b_opens : goal.returns-clause-pilot_b_opens
unfolding reading.whole_at
returns-clause-pilot_b_opens c = refl

pub returns-clause-pilot_b_waits : goal.returns-clause-pilot_b_waits
unfolding reading.whole_at
returns-clause-pilot_b_waits c = refl

pub returns-clause-pilot_a_ends : goal.returns-clause-pilot_a_ends
unfolding reading.whole_at
returns-clause-pilot_a_ends c = refl

pub returns-clause-arrives_behind_open : goal.returns-clause-arrives_behind_open
unfolding reading.whole_at
returns-clause-arrives_behind_open c = refl

pub returns-clause-pilot_b_behind_open_waits : goal.returns-clause-pilot_b_behind_open_waits
unfolding reading.whole_at
returns-clause-pilot_b_behind_open_waits c = refl

pub returns-clause-pilot_b_while_owed : goal.returns-clause-pilot_b_while_owed
returns-clause-pilot_b_while_owed c = λ t. refl

pub returns-clause-pilot_b_behind_open : goal.returns-clause-pilot_b_behind_open
returns-clause-pilot_b_behind_open c = λ t. refl

pub returns-clause-pilot_b_while_closed : goal.returns-clause-pilot_b_while_closed
returns-clause-pilot_b_while_closed c = λ t. refl

pub returns-clause-opened_against_order_ends : goal.returns-clause-opened_against_order_ends
unfolding reading.whole_at
returns-clause-opened_against_order_ends c = refl

pub returns-clause-open_while_closing_waits : goal.returns-clause-open_while_closing_waits
unfolding reading.whole_at
returns-clause-open_while_closing_waits c = refl

pub returns-clause-closed_against_order_ends : goal.returns-clause-closed_against_order_ends
unfolding reading.whole_at
returns-clause-closed_against_order_ends c = refl

pub returns-clause-stop_ends : goal.returns-clause-stop_ends
unfolding reading.whole_at
returns-clause-stop_ends c = refl

pub returns-clause-stop_of_another_fails : goal.returns-clause-stop_of_another_fails
unfolding reading.whole_at
returns-clause-stop_of_another_fails c = refl

pub returns-clause-gone_opens : goal.returns-clause-gone_opens
unfolding reading.whole_at
returns-clause-gone_opens c = refl

pub returns-clause-came_opens : goal.returns-clause-came_opens
unfolding reading.whole_at
returns-clause-came_opens c = refl

pub returns-clause-over_opens : goal.returns-clause-over_opens
unfolding reading.whole_at
returns-clause-over_opens c = refl
