-- ISO 15118-2:2014, 8.8.4: how the run of the pipe of a station and a car ends that go together.
use Rattle.std.specs.Prelude.{◌≡◌, ℕ, ◌≤◌, List, ◌∷◌}
use Rattle.std.specs.List.{AllByRecursion}
use Rattle.session_words.specs.declared.plan.CarPlan.{CarPlan}
use Rattle.session_words.specs.declared.plan.PostPlan.{PostPlan}
use Rattle.session_words.specs.declared.plan.SitePlan.{SitePlan}
use Rattle.session_words.specs.Plans.{IsCarPlan, IsSitePlan}
use Rattle.post_spec.specs.Codecs as post
use Rattle.car_spec.specs.Codecs as car
use Rattle.pipe_spec.specs.Histories.{Happening}
use Rattle.pipe_spec.specs.Matched.{IsMatched, EndsWell}
use Rattle.pipe_spec.specs.Runs.{IsPipeRun}
use Rattle.pipe_laws.specs.OneMessage.{IsShort}
use Rattle.pair_readings.specs.Codecs.{AreMutual}
use Rattle.pair_negotiation.specs.Agreeing.{AgreeOnShared}

-- codecs of both ends that read back what the other encodes, and agree on a dialect
pub record AreFit (c : post.Codecs) (cc : car.Codecs) : Type 0 where
  pub readings : AreMutual c cc
  pub agree : AgreeOnShared c cc

-- the car's plan matches that of the first post, and both plans have turns enough
pub record GoTogether (site : SitePlan) (plan : CarPlan) : Type 0 where
  pub post : PostPlan
  pub others : List PostPlan
  pub first : site.post.items ≡ post ∷ others
  pub matched : IsMatched post plan
  pub turns : 1000000000 ≤ site.turns
  pub car_turns : 1000000000 ≤ plan.turns

-- within its bound, with codes of the OK class, by SessionStop, and with both contactors open
abbrev pub IsWell : post.Codecs → car.Codecs → SitePlan → CarPlan → List Happening → Type 0
IsWell c cc site plan h = AreFit c cc → GoTogether site plan → EndsWell plan h

-- 30,000: the greatest voltage of a plan, in tenths of a volt; 1,032: a frame with a payload of 1,024 bytes
abbrev pub PipeRunsAreWell : post.Codecs → car.Codecs → Type 0
PipeRunsAreWell c cc = (site : SitePlan) (plan : CarPlan) (seed : ℕ) (h : List Happening) → IsSitePlan site → IsCarPlan plan → plan.target_voltage ≤ 30000
    → IsPipeRun c cc site plan seed h → AllByRecursion (IsShort 1032) h → IsWell c cc site plan h
