-- A session in which no deadline is reached.
use Rattle.post_spec.specs.Codecs as post
use Rattle.car_spec.specs.Codecs as car
use Rattle.matched_pairs.proofs.Undisturbed.{sessions_are_undisturbed}
use Rattle.matched_pairs.proofs.Power.{powers_are_within}
use Rattle.matched_pairs.proofs.Causes.{sessions_end_by_stop}
use Rattle.matched_pairs.specs.Timely.{TimelySessionsAreUndisturbed, TimelySessionsEnd}

pub timely_sessions_are_undisturbed : (c : post.Codecs) (cs : car.Codecs) → TimelySessionsAreUndisturbed c cs
timely_sessions_are_undisturbed c cs st plan h p f l d = sessions_are_undisturbed c cs st plan h p f l (powers_are_within c cs st plan h p f l d)

pub timely_sessions_end : (c : post.Codecs) (cs : car.Codecs) → TimelySessionsEnd c cs
timely_sessions_end c cs st plan h p f l d turns car_turns =
    sessions_end_by_stop c cs st plan h p f l
    (timely_sessions_are_undisturbed c cs st plan h p (record { session = f.session; h_is = f.h_is; within = f.within; run = f.run }) l d) turns car_turns
