use Rattle.std.proofs.Common.{refl}
use Rattle.v2gtp_frames.specs.Reading as reading
use Rattle.station_examples.proofs.contactors_close.Goals as goal

pub returns-clause-start_before_check_fails : goal.returns-clause-start_before_check_fails
unfolding reading.whole_at
returns-clause-start_before_check_fails c = refl

pub returns-clause-closes_near : goal.returns-clause-closes_near
unfolding reading.whole_at
returns-clause-closes_near c = refl

pub returns-clause-closes_near_above : goal.returns-clause-closes_near_above
unfolding reading.whole_at
returns-clause-closes_near_above c = refl

pub returns-clause-stays_open_far : goal.returns-clause-stays_open_far
unfolding reading.whole_at
returns-clause-stays_open_far c = refl

pub returns-clause-stays_open_just_far : goal.returns-clause-stays_open_just_far
unfolding reading.whole_at
returns-clause-stays_open_just_far c = refl

pub returns-clause-stays_open_far_above : goal.returns-clause-stays_open_far_above
unfolding reading.whole_at
returns-clause-stays_open_far_above c = refl

pub returns-clause-stays_open_while_opening : goal.returns-clause-stays_open_while_opening
unfolding reading.whole_at
returns-clause-stays_open_while_opening c = refl

pub returns-clause-stays_open_without_car : goal.returns-clause-stays_open_without_car
unfolding reading.whole_at
returns-clause-stays_open_without_car c = refl

pub returns-clause-confirmed_is_answered : goal.returns-clause-confirmed_is_answered
unfolding reading.whole_at
returns-clause-confirmed_is_answered c = refl

pub returns-clause-unconfirmed_ends : goal.returns-clause-unconfirmed_ends
unfolding reading.whole_at
returns-clause-unconfirmed_ends c = refl

pub returns-clause-frame_behind_start_ends : goal.returns-clause-frame_behind_start_ends
unfolding reading.whole_at
returns-clause-frame_behind_start_ends c = refl

pub returns-clause-ac_closes : goal.returns-clause-ac_closes
unfolding reading.whole_at
returns-clause-ac_closes c = refl

pub returns-clause-ac_confirmed_is_answered : goal.returns-clause-ac_confirmed_is_answered
unfolding reading.whole_at
returns-clause-ac_confirmed_is_answered c = refl

pub returns-clause-failed_close_ends : goal.returns-clause-failed_close_ends
unfolding reading.whole_at
returns-clause-failed_close_ends c = refl

pub returns-clause-check_waits : goal.returns-clause-check_waits
unfolding reading.whole_at
returns-clause-check_waits c = refl

pub returns-clause-check_fails : goal.returns-clause-check_fails
unfolding reading.whole_at
returns-clause-check_fails c = refl
