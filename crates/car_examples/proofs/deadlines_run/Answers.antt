use Rattle.std.proofs.Common.{refl}
use Rattle.v2gtp_frames.specs.Reading as reading
use Rattle.car_examples.proofs.deadlines_run.Goals as goal

pub returns-clause-awaits_reply : goal.returns-clause-awaits_reply
unfolding reading.whole_at
returns-clause-awaits_reply c = refl

pub returns-clause-ends_without_reply : goal.returns-clause-ends_without_reply
unfolding reading.whole_at
returns-clause-ends_without_reply c = refl

pub returns-clause-awaits_delivery : goal.returns-clause-awaits_delivery
unfolding reading.whole_at
returns-clause-awaits_delivery c = refl

pub returns-clause-ends_without_delivery : goal.returns-clause-ends_without_delivery
unfolding reading.whole_at
returns-clause-ends_without_delivery c = refl

pub returns-clause-awaits_demand : goal.returns-clause-awaits_demand
unfolding reading.whole_at
returns-clause-awaits_demand c = refl

pub returns-clause-ends_without_demand : goal.returns-clause-ends_without_demand
unfolding reading.whole_at
returns-clause-ends_without_demand c = refl

pub returns-clause-awaits_charging_status : goal.returns-clause-awaits_charging_status
unfolding reading.whole_at
returns-clause-awaits_charging_status c = refl

pub returns-clause-deadline_goes_first : goal.returns-clause-deadline_goes_first
unfolding reading.whole_at
returns-clause-deadline_goes_first c = refl

pub returns-clause-deadline_goes_before_event : goal.returns-clause-deadline_goes_before_event
unfolding reading.whole_at
returns-clause-deadline_goes_before_event c = refl

pub returns-clause-ends_unfinished : goal.returns-clause-ends_unfinished
unfolding reading.whole_at
returns-clause-ends_unfinished c = refl

pub returns-clause-awaits_finished : goal.returns-clause-awaits_finished
unfolding reading.whole_at
returns-clause-awaits_finished c = refl

pub returns-clause-ends_unchecked : goal.returns-clause-ends_unchecked
unfolding reading.whole_at
returns-clause-ends_unchecked c = refl

pub returns-clause-awaits_checked : goal.returns-clause-awaits_checked
unfolding reading.whole_at
returns-clause-awaits_checked c = refl

pub returns-clause-ends_uncharged : goal.returns-clause-ends_uncharged
unfolding reading.whole_at
returns-clause-ends_uncharged c = refl

pub returns-clause-awaits_charged : goal.returns-clause-awaits_charged
unfolding reading.whole_at
returns-clause-awaits_charged c = refl

pub returns-clause-renews_its_span : goal.returns-clause-renews_its_span
unfolding reading.whole_at
returns-clause-renews_its_span c = refl

pub returns-clause-least_number_decides : goal.returns-clause-least_number_decides
unfolding reading.whole_at
returns-clause-least_number_decides c = refl

pub returns-clause-other_before_it : goal.returns-clause-other_before_it
unfolding reading.whole_at
returns-clause-other_before_it c = refl

pub returns-clause-last_moment_is_reached : goal.returns-clause-last_moment_is_reached
unfolding reading.whole_at
returns-clause-last_moment_is_reached c = refl

pub returns-clause-past_it_is_never : goal.returns-clause-past_it_is_never
unfolding reading.whole_at
returns-clause-past_it_is_never c = refl
