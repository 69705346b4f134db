-- Own: what is told of a session over the pipe.
use Rattle.std.specs.Prelude.{◌≡◌, ℕ, List}
use Rattle.session_words.specs.declared.plan.CarPlan.{CarPlan}
use Rattle.session_words.specs.declared.plan.SitePlan.{SitePlan}
use Rattle.post_spec.specs.Codecs.{Codecs}
use Rattle.car_spec.specs.Codecs as car
use Rattle.pipe_spec.specs.Counts.{exchanges, car_cause_number}
use Rattle.pipe_spec.specs.Histories.{Happening}
use Rattle.pipe_spec.specs.Runs.{IsPipeRun}
use Rattle.matched_pairs.specs.PipeRuns.{IsWell}
use Rattle.pair_talk.specs.declared.talking.TalkReport.{TalkReport}

-- of the run of the pipe that both plans and the seed determine. It ends well where the plans go together
pub record IsTalk (c : Codecs) (cc : car.Codecs) (site : SitePlan) (plan : CarPlan) (seed : ℕ) (report : TalkReport) : Type 0 where
  pub history : List Happening
  pub run : IsPipeRun c cc site plan seed history
  pub well : IsWell c cc site plan history
  pub exchanges_are : report.exchanges ≡ exchanges history
  pub cause_is : report.cause ≡ car_cause_number history
