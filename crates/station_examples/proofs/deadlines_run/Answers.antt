use Rattle.std.proofs.Common.{refl}
use Rattle.v2gtp_frames.specs.Reading as reading
use Rattle.station_examples.proofs.deadlines_run.Goals as goal

pub returns-clause-waits_before_deadline : goal.returns-clause-waits_before_deadline
unfolding reading.whole_at
returns-clause-waits_before_deadline c = refl

pub returns-clause-ends_at_deadline : goal.returns-clause-ends_at_deadline
unfolding reading.whole_at
returns-clause-ends_at_deadline c = refl

pub returns-clause-deadline_goes_first : goal.returns-clause-deadline_goes_first
unfolding reading.whole_at
returns-clause-deadline_goes_first c = refl

pub returns-clause-deadline_goes_before_event : goal.returns-clause-deadline_goes_before_event
unfolding reading.whole_at
returns-clause-deadline_goes_before_event c = refl

pub returns-clause-reply_begins_anew : goal.returns-clause-reply_begins_anew
unfolding reading.whole_at
returns-clause-reply_begins_anew c = refl

pub returns-clause-clock_stands_still : goal.returns-clause-clock_stands_still
unfolding reading.whole_at
returns-clause-clock_stands_still c = refl

pub returns-clause-waits_for_setup : goal.returns-clause-waits_for_setup
unfolding reading.whole_at
returns-clause-waits_for_setup c = refl

pub returns-clause-ends_without_setup : goal.returns-clause-ends_without_setup
unfolding reading.whole_at
returns-clause-ends_without_setup c = refl

pub returns-clause-negotiation_delays_nothing : goal.returns-clause-negotiation_delays_nothing
unfolding reading.whole_at
returns-clause-negotiation_delays_nothing c = refl

pub returns-clause-never_is_due : goal.returns-clause-never_is_due
unfolding reading.whole_at
returns-clause-never_is_due c = refl

pub returns-clause-last_moment_is_never : goal.returns-clause-last_moment_is_never
unfolding reading.whole_at
returns-clause-last_moment_is_never c = refl

pub returns-clause-last_but_one_is_due : goal.returns-clause-last_but_one_is_due
unfolding reading.whole_at
returns-clause-last_but_one_is_due c = refl

pub returns-clause-other_post_is_clock : goal.returns-clause-other_post_is_clock
unfolding reading.whole_at
returns-clause-other_post_is_clock c = refl

pub returns-clause-other_post_changes_no_reply : goal.returns-clause-other_post_changes_no_reply
unfolding reading.whole_at
returns-clause-other_post_changes_no_reply c = refl
