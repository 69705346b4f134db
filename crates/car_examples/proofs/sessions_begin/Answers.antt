use Rattle.std.proofs.Common.{refl}
use Rattle.v2gtp_frames.specs.Reading as reading
use Rattle.car_examples.proofs.sessions_begin.Goals as goal

pub returns-clause-names_none : goal.returns-clause-names_none
unfolding reading.whole_at
returns-clause-names_none c = refl

pub returns-clause-names_the_paused : goal.returns-clause-names_the_paused
unfolding reading.whole_at
returns-clause-names_the_paused c = refl

pub returns-clause-takes_the_given : goal.returns-clause-takes_the_given
unfolding reading.whole_at
returns-clause-takes_the_given c = refl

pub returns-clause-ends_unmatched : goal.returns-clause-ends_unmatched
unfolding reading.whole_at
returns-clause-ends_unmatched c = refl

pub returns-clause-din_names_no_schedule : goal.returns-clause-din_names_no_schedule
unfolding reading.whole_at
returns-clause-din_names_no_schedule c = refl

pub returns-clause-iso_names_the_first : goal.returns-clause-iso_names_the_first
unfolding reading.whole_at
returns-clause-iso_names_the_first c = refl

pub returns-clause-iso_pauses : goal.returns-clause-iso_pauses
unfolding reading.whole_at
returns-clause-iso_pauses c = refl

pub returns-clause-din_ends : goal.returns-clause-din_ends
unfolding reading.whole_at
returns-clause-din_ends c = refl

pub returns-clause-unconnected_waits : goal.returns-clause-unconnected_waits
unfolding reading.whole_at
returns-clause-unconnected_waits c = refl

pub returns-clause-unconnected_ends_by_over : goal.returns-clause-unconnected_ends_by_over
unfolding reading.whole_at
returns-clause-unconnected_ends_by_over c = refl
