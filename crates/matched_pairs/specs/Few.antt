-- Own: how many hearings the first session of plans that match takes.
use Rattle.std.specs.Prelude.{◌+◌, ◌*◌, ◌<◌, ◌≤◌, List}
use Rattle.std.specs.List.{AllByRecursion}
use Rattle.session_words.specs.declared.plan.CarPlan.{CarPlan}
use Rattle.post_spec.specs.Codecs as post
use Rattle.car_spec.specs.Codecs as car
use Rattle.pipe_spec.specs.Histories.{Happening, joined, station_hearings, car_hearings}
use Rattle.pipe_spec.specs.Counts.{exchanges}
use Rattle.pipe_spec.specs.Turns.{Station}
use Rattle.pipe_laws.specs.OneMessage.{IsShort}
use Rattle.pipe_laws.specs.PipePasts.{IsFirst}
use Rattle.matched_pairs.specs.Moves.{IsPair}
use Rattle.matched_pairs.specs.Steps.{AllKeepSteps}

pub record AreFew (h : List Happening) : Type 0 where
  pub station : station_hearings h < 1000000000
  pub car : car_hearings h < 1000000000

-- 1,032: the bytes of a frame whose payload has 1,024. 64 + 4 * cycles: the exchanges of a session that ends well, at most
abbrev pub HearingsAreFew : post.Codecs → car.Codecs → Type 0
HearingsAreFew c cc = (st : Station) (plan : CarPlan) (h : List Happening) → IsPair c cc st.post (joined plan) → IsFirst c cc st plan h
    → AllByRecursion (IsShort 1032) h → AllKeepSteps (joined plan) h → exchanges h ≤ 64 + 4 * plan.cycles → AreFew h
