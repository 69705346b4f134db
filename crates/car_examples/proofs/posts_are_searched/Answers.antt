use Rattle.std.proofs.Common.{refl}
use Rattle.v2gtp_frames.specs.Reading as reading
use Rattle.car_examples.proofs.posts_are_searched.Goals as goal

pub returns-clause-asks_at_once : goal.returns-clause-asks_at_once
unfolding reading.whole_at
returns-clause-asks_at_once c = refl

pub returns-clause-waits_for_answer : goal.returns-clause-waits_for_answer
unfolding reading.whole_at
returns-clause-waits_for_answer c = refl

pub returns-clause-asks_again : goal.returns-clause-asks_again
unfolding reading.whole_at
returns-clause-asks_again c = refl

pub returns-clause-asks_nothing : goal.returns-clause-asks_nothing
unfolding reading.whole_at
returns-clause-asks_nothing c = refl

pub returns-clause-dials_the_answer : goal.returns-clause-dials_the_answer
unfolding reading.whole_at
returns-clause-dials_the_answer c = refl

pub returns-clause-ignores_tls : goal.returns-clause-ignores_tls
unfolding reading.whole_at
returns-clause-ignores_tls c = refl

pub returns-clause-ignores_the_second : goal.returns-clause-ignores_the_second
unfolding reading.whole_at
returns-clause-ignores_the_second c = refl

pub returns-clause-failed_dial_ends : goal.returns-clause-failed_dial_ends
unfolding reading.whole_at
returns-clause-failed_dial_ends c = refl

pub returns-clause-asks_fifty_times : goal.returns-clause-asks_fifty_times
unfolding reading.whole_at
returns-clause-asks_fifty_times c = refl

pub returns-clause-waits_behind_them : goal.returns-clause-waits_behind_them
unfolding reading.whole_at
returns-clause-waits_behind_them c = refl

pub returns-clause-gives_up : goal.returns-clause-gives_up
unfolding reading.whole_at
returns-clause-gives_up c = refl

pub returns-clause-gives_up_first : goal.returns-clause-gives_up_first
unfolding reading.whole_at
returns-clause-gives_up_first c = refl

pub returns-clause-waits_for_nothing : goal.returns-clause-waits_for_nothing
unfolding reading.whole_at
returns-clause-waits_for_nothing c = refl

pub returns-clause-waits_for_its_turn : goal.returns-clause-waits_for_its_turn
unfolding reading.whole_at
returns-clause-waits_for_its_turn c = refl

pub returns-clause-waits_for_ever : goal.returns-clause-waits_for_ever
unfolding reading.whole_at
returns-clause-waits_for_ever c = refl
