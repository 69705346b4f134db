use Rattle.std.proofs.Common.{refl}
use Rattle.v2gtp_frames.specs.Reading as reading
use Rattle.station_examples.proofs.sessions_are_set_up.Goals as goal

pub returns-clause-pieces_wait : goal.returns-clause-pieces_wait
unfolding reading.whole_at
returns-clause-pieces_wait c = refl

pub returns-clause-pieces_give_one_reply : goal.returns-clause-pieces_give_one_reply
unfolding reading.whole_at
returns-clause-pieces_give_one_reply c = refl

pub returns-clause-ends_without_match : goal.returns-clause-ends_without_match
unfolding reading.whole_at
returns-clause-ends_without_match c = refl

pub returns-clause-ends_by_bad_frame : goal.returns-clause-ends_by_bad_frame
unfolding reading.whole_at
returns-clause-ends_by_bad_frame c = refl

pub returns-clause-ends_by_refusal : goal.returns-clause-ends_by_refusal
unfolding reading.whole_at
returns-clause-ends_by_refusal c = refl

pub returns-clause-ends_by_reply : goal.returns-clause-ends_by_reply
unfolding reading.whole_at
returns-clause-ends_by_reply c = refl

pub returns-clause-early_authorization_fails : goal.returns-clause-early_authorization_fails
unfolding reading.whole_at
returns-clause-early_authorization_fails c = refl

pub returns-clause-name_is_judged_first : goal.returns-clause-name_is_judged_first
unfolding reading.whole_at
returns-clause-name_is_judged_first c = refl

pub returns-clause-stop_ends : goal.returns-clause-stop_ends
unfolding reading.whole_at
returns-clause-stop_ends c = refl

pub returns-clause-stop_of_another_fails : goal.returns-clause-stop_of_another_fails
unfolding reading.whole_at
returns-clause-stop_of_another_fails c = refl

pub returns-clause-waits_for_payment : goal.returns-clause-waits_for_payment
unfolding reading.whole_at
returns-clause-waits_for_payment c = refl

pub returns-clause-payment_finishes : goal.returns-clause-payment_finishes
unfolding reading.whole_at
returns-clause-payment_finishes c = refl

pub returns-clause-payment_is_used_up : goal.returns-clause-payment_is_used_up
unfolding reading.whole_at
returns-clause-payment_is_used_up c = refl

pub returns-clause-without_watts_waits : goal.returns-clause-without_watts_waits
unfolding reading.whole_at
returns-clause-without_watts_waits c = refl

pub returns-clause-mode_is_judged_first : goal.returns-clause-mode_is_judged_first
unfolding reading.whole_at
returns-clause-mode_is_judged_first c = refl
