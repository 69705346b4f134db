use Rattle.std.proofs.Common.{refl}
use Rattle.v2gtp_frames.specs.Reading as reading
use Rattle.car_examples.proofs.replies_are_judged.Goals as goal

pub returns-clause-other_kind_ends : goal.returns-clause-other_kind_ends
unfolding reading.whole_at
returns-clause-other_kind_ends c = refl

pub returns-clause-other_session_ends : goal.returns-clause-other_session_ends
unfolding reading.whole_at
returns-clause-other_session_ends c = refl

pub returns-clause-unasked_ends : goal.returns-clause-unasked_ends
unfolding reading.whole_at
returns-clause-unasked_ends c = refl

pub returns-clause-second_ends : goal.returns-clause-second_ends
unfolding reading.whole_at
returns-clause-second_ends c = refl

pub returns-clause-failed_ends : goal.returns-clause-failed_ends
unfolding reading.whole_at
returns-clause-failed_ends c = refl

pub returns-clause-wrong_goes_first : goal.returns-clause-wrong_goes_first
unfolding reading.whole_at
returns-clause-wrong_goes_first c = refl

pub returns-clause-other_mode_ends : goal.returns-clause-other_mode_ends
unfolding reading.whole_at
returns-clause-other_mode_ends c = refl

pub returns-clause-refused_ends : goal.returns-clause-refused_ends
unfolding reading.whole_at
returns-clause-refused_ends c = refl

pub returns-clause-request_ends : goal.returns-clause-request_ends
unfolding reading.whole_at
returns-clause-request_ends c = refl

pub returns-clause-bad_frame_ends : goal.returns-clause-bad_frame_ends
unfolding reading.whole_at
returns-clause-bad_frame_ends c = refl
