use Rattle.std.proofs.Common.{refl}
use Rattle.v2gtp_frames.specs.Reading as reading
use Rattle.agenda_examples.proofs.left_over.Goals as goal

pub returns-clause-hearing_leaves_nothing : goal.returns-clause-hearing_leaves_nothing
unfolding reading.whole_at
returns-clause-hearing_leaves_nothing c = refl

pub returns-clause-answer_leaves_nothing : goal.returns-clause-answer_leaves_nothing
unfolding reading.whole_at
returns-clause-answer_leaves_nothing c = refl

pub returns-clause-unmatched_leaves_the_end : goal.returns-clause-unmatched_leaves_the_end
unfolding reading.whole_at
returns-clause-unmatched_leaves_the_end c = refl

pub returns-clause-unsent_leaves_the_end : goal.returns-clause-unsent_leaves_the_end
unfolding reading.whole_at
returns-clause-unsent_leaves_the_end c = refl

pub returns-clause-repeated_leaves_the_rows : goal.returns-clause-repeated_leaves_the_rows
unfolding reading.whole_at
returns-clause-repeated_leaves_the_rows c = refl

pub returns-clause-late_is_asked_before_the_event : goal.returns-clause-late_is_asked_before_the_event
unfolding reading.whole_at
returns-clause-late_is_asked_before_the_event c = refl
