-- ISO 15118-2:2014, 8.7 (the deadlines of both ends): as far as none is reached, the first session of plans that match goes well to its end.
use Rattle.std.specs.Prelude.{◌<◌, List, []}
use Rattle.std.specs.List.{AllByRecursion}
use Rattle.session_words.specs.declared.plan.CarPlan.{CarPlan}
use Rattle.post_spec.specs.Codecs as post
use Rattle.car_spec.specs.Codecs as car
use Rattle.pipe_spec.specs.Histories.{Happening, joined, station_hearings, car_hearings}
use Rattle.pipe_spec.specs.Runs.{IsSession}
use Rattle.pipe_spec.specs.Turns.{Station}
use Rattle.pipe_laws.specs.OneMessage.{IsShort}
use Rattle.pipe_laws.specs.PipePasts.{IsFirst}
use Rattle.matched_pairs.specs.Moves.{IsPair}
use Rattle.matched_pairs.specs.Courses.{AllGoUndisturbed}
use Rattle.matched_pairs.specs.Causes.{HasEndedByStop}
use Rattle.matched_pairs.specs.Power.{AllKeepTime}

-- 65,544: the bytes of the longest frame that is read
abbrev pub TimelySessionsAreUndisturbed : post.Codecs → car.Codecs → Type 0
TimelySessionsAreUndisturbed c cc = (st : Station) (plan : CarPlan) (h : List Happening) → IsPair c cc st.post (joined plan) → IsFirst c cc st plan h
    → AllByRecursion (IsShort 65544) h → AllKeepTime st (joined plan) h → AllGoUndisturbed c cc st (joined plan) h

abbrev pub TimelySessionsEnd : post.Codecs → car.Codecs → Type 0
TimelySessionsEnd c cc = (st : Station) (plan : CarPlan) (h : List Happening) → IsPair c cc st.post (joined plan) → IsSession c cc st [] plan h
    → AllByRecursion (IsShort 65544) h → AllKeepTime st (joined plan) h → station_hearings h < st.turns → car_hearings h < plan.turns
    → HasEndedByStop st (joined plan) h
