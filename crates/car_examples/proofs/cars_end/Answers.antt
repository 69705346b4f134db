use Rattle.std.proofs.Common.{refl}
use Rattle.v2gtp_frames.specs.Reading as reading
use Rattle.car_examples.proofs.cars_end.Goals as goal

pub returns-clause-emergency_opens : goal.returns-clause-emergency_opens
unfolding reading.whole_at
returns-clause-emergency_opens c = refl

pub returns-clause-pilot_ends_nothing : goal.returns-clause-pilot_ends_nothing
unfolding reading.whole_at
returns-clause-pilot_ends_nothing c = refl

pub returns-clause-gone_opens : goal.returns-clause-gone_opens
unfolding reading.whole_at
returns-clause-gone_opens c = refl

pub returns-clause-second_connection_ends : goal.returns-clause-second_connection_ends
unfolding reading.whole_at
returns-clause-second_connection_ends c = refl

pub returns-clause-over_opens : goal.returns-clause-over_opens
unfolding reading.whole_at
returns-clause-over_opens c = refl

pub returns-clause-failed_send_ends : goal.returns-clause-failed_send_ends
unfolding reading.whole_at
returns-clause-failed_send_ends c = refl

pub returns-clause-failed_open_ends : goal.returns-clause-failed_open_ends
unfolding reading.whole_at
returns-clause-failed_open_ends c = refl

pub returns-clause-ended_is_silent : goal.returns-clause-ended_is_silent
unfolding reading.whole_at
returns-clause-ended_is_silent c = refl

pub returns-clause-stop_ends : goal.returns-clause-stop_ends
unfolding reading.whole_at
returns-clause-stop_ends c = refl

pub returns-clause-pause_ends : goal.returns-clause-pause_ends
unfolding reading.whole_at
returns-clause-pause_ends c = refl
