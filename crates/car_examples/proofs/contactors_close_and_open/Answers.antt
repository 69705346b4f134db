use Rattle.std.proofs.Common.{refl}
use Rattle.v2gtp_frames.specs.Reading as reading
use Rattle.car_examples.proofs.contactors_close_and_open.Goals as goal

pub returns-clause-closes_near : goal.returns-clause-closes_near
unfolding reading.whole_at
returns-clause-closes_near c = refl

pub returns-clause-closes_near_above : goal.returns-clause-closes_near_above
unfolding reading.whole_at
returns-clause-closes_near_above c = refl

pub returns-clause-waits_far : goal.returns-clause-waits_far
unfolding reading.whole_at
returns-clause-waits_far c = refl

pub returns-clause-waits_far_above : goal.returns-clause-waits_far_above
unfolding reading.whole_at
returns-clause-waits_far_above c = refl

pub returns-clause-closes_in_wrong_unit : goal.returns-clause-closes_in_wrong_unit
unfolding reading.whole_at
returns-clause-closes_in_wrong_unit c = refl

pub returns-clause-ac_closes : goal.returns-clause-ac_closes
unfolding reading.whole_at
returns-clause-ac_closes c = refl

pub returns-clause-failed_close_ends : goal.returns-clause-failed_close_ends
unfolding reading.whole_at
returns-clause-failed_close_ends c = refl

pub returns-clause-failed_open_ends : goal.returns-clause-failed_open_ends
unfolding reading.whole_at
returns-clause-failed_open_ends c = refl

pub returns-clause-waits_for_its_pace : goal.returns-clause-waits_for_its_pace
unfolding reading.whole_at
returns-clause-waits_for_its_pace c = refl

pub returns-clause-asks_at_its_pace : goal.returns-clause-asks_at_its_pace
unfolding reading.whole_at
returns-clause-asks_at_its_pace c = refl

pub returns-clause-asks_at_the_last_moment : goal.returns-clause-asks_at_the_last_moment
unfolding reading.whole_at
returns-clause-asks_at_the_last_moment c = refl

pub returns-clause-asks_never_past_it : goal.returns-clause-asks_never_past_it
unfolding reading.whole_at
returns-clause-asks_never_past_it c = refl

pub returns-clause-asks_behind_the_event : goal.returns-clause-asks_behind_the_event
unfolding reading.whole_at
returns-clause-asks_behind_the_event c = refl

pub returns-clause-charges_on : goal.returns-clause-charges_on
unfolding reading.whole_at
returns-clause-charges_on c = refl

pub returns-clause-stops_at_the_last : goal.returns-clause-stops_at_the_last
unfolding reading.whole_at
returns-clause-stops_at_the_last c = refl

pub returns-clause-stops_for_the_post : goal.returns-clause-stops_for_the_post
unfolding reading.whole_at
returns-clause-stops_for_the_post c = refl

pub returns-clause-stops_for_the_driver : goal.returns-clause-stops_for_the_driver
unfolding reading.whole_at
returns-clause-stops_for_the_driver c = refl

pub returns-clause-renegotiates : goal.returns-clause-renegotiates
unfolding reading.whole_at
returns-clause-renegotiates c = refl
