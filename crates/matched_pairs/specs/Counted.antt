-- ISO 15118-2:2014, 8.8.4 (the order of the requests); 8.7 (the timers of the car): how many exchanges the first session of plans that match has.
use Rattle.std.specs.Prelude.{◌+◌, ◌≤◌, List}
use Rattle.std.specs.List.{AllByRecursion}
use Rattle.session_words.specs.declared.plan.CarPlan.{CarPlan}
use Rattle.post_spec.specs.Codecs as post
use Rattle.car_spec.specs.Codecs as car
use Rattle.pipe_spec.specs.Counts.{exchanges}
use Rattle.pipe_spec.specs.Histories.{Happening, joined}
use Rattle.pipe_spec.specs.Turns.{Station}
use Rattle.pipe_laws.specs.OneMessage.{IsShort}
use Rattle.pipe_laws.specs.PipePasts.{IsFirst}
use Rattle.pair_words.specs.Timed.{is_pre_charging}
use Rattle.matched_pairs.specs.Moves.{IsPair}
use Rattle.matched_pairs.specs.Courses.{AllGoUndisturbed}
use Rattle.matched_pairs.specs.Repeats.{repeats_in}
use Rattle.matched_pairs.specs.Quick.{is_quick}

-- 65,544: the bytes of the longest frame that is read. The response to the negotiation is counted
abbrev pub ExchangesAreCounted : post.Codecs → car.Codecs → Type 0
ExchangesAreCounted c cc = (st : Station) (plan : CarPlan) (h : List Happening) → IsPair c cc st.post (joined plan) → IsFirst c cc st plan h
    → AllByRecursion (IsShort 65544) h → AllGoUndisturbed c cc st (joined plan) h
    → exchanges h ≤ 21 + plan.cycles + repeats_in is_quick (joined plan) h + repeats_in is_pre_charging (joined plan) h

-- each of these is asked again before 300 ms of the session, and a pace of 100 ms later at the earliest. The site bears a watt at least
abbrev pub QuickStepsAreFew : post.Codecs → car.Codecs → Type 0
QuickStepsAreFew c cc = (st : Station) (plan : CarPlan) (h : List Happening) → IsPair c cc st.post (joined plan) → 1 ≤ st.limit → IsFirst c cc st plan h
    → AllByRecursion (IsShort 65544) h → AllGoUndisturbed c cc st (joined plan) h → repeats_in is_quick (joined plan) h ≤ 3
