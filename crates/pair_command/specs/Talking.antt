-- Own: the line of a station and a car that talk over a pipe in memory.
use Rattle.std.specs.Prelude.{◌≡◌, ℕ, List}
use Rattle.session_words.specs.declared.plan.CarPlan.{CarPlan}
use Rattle.session_words.specs.declared.plan.SitePlan.{SitePlan}
use Rattle.post_spec.specs.Codecs.{Codecs}
use Rattle.car_spec.specs.Codecs as car
use Rattle.pair_plans.specs.Lines.{talk_line}
use Rattle.pair_talk.specs.Counts.{exchanges, car_cause_number}
use Rattle.pair_talk.specs.Runs.{IsPipeRun}
use Rattle.pipe_spec.specs.Histories.{Happening}
use Rattle.matched_pairs.specs.PipeRuns.{IsWell}

-- `exchanges N cause C`, of the run of the pipe that both plans and the seed determine: the replies that the car heard, and the number of the cause by
-- which it ended, 0 where it didn't
pub record IsTalkLine (c : Codecs) (cc : car.Codecs) (site : SitePlan) (plan : CarPlan) (seed : ℕ) (line : List ℕ) : Type 0 where
  pub history : List Happening
  pub run : IsPipeRun c cc site plan seed history
  pub line_is : line ≡ talk_line (exchanges history) (car_cause_number history)

-- as it is told: that run ends well where the plans go together
pub record IsToldLine (c : Codecs) (cc : car.Codecs) (site : SitePlan) (plan : CarPlan) (seed : ℕ) (line : List ℕ) : Type 0 where
  pub talk : IsTalkLine c cc site plan seed line
  pub well : IsWell c cc site plan talk.history
