-- The line of a session over the pipe, and that of sessions that are generated.
use Rattle.std.proofs.Common.{◌≡◌, ℕ, List, ap, ◌∙◌, IfOk, Result, Ok, Err}
use Rattle.session_words.specs.declared.plan.CarPlan.{CarPlan}
use Rattle.session_words.specs.declared.plan.SitePlan.{SitePlan}
use Rattle.post_spec.specs.Codecs.{Codecs}
use Rattle.car_spec.specs.Codecs as car
use Rattle.pair_plans.specs.Lines.{generated_line, talk_line}
use Rattle.pair_talk.specs.Counts.{Counts, exchanges}
use Rattle.pair_talk.specs.Generating.{AreCounts}
use Rattle.pair_talk.specs.Reports.{IsTalk}
use Rattle.pair_talk.specs.declared.talking.TalkReport.{TalkReport}
use Rattle.pair_command.specs.Generating.{IsGeneratedLine}
use Rattle.pair_command.specs.Talking.{IsToldLine}

-- a line that tells the report of a session is that of the session
pub told_line : {A E : Type 0} (c : Codecs) (cc : car.Codecs) (site : SitePlan) (plan : CarPlan) (seed : ℕ) (report : TalkReport) (bytes : A → List ℕ) (made : Result A E)
    → IsTalk c cc site plan seed report → IfOk made (λ line. bytes line ≡ talk_line report.exchanges report.cause) → IfOk made (λ line. IsToldLine c cc site plan seed (bytes line))
told_line c cc site plan seed report bytes (Ok line) is told = record {
  talk = record {
    history = is.history;
    run = is.run;
    line_is = told ∙ ap (λ (n : ℕ). talk_line n report.cause) is.exchanges_are ∙ ap (talk_line (exchanges is.history)) is.cause_is;
  };
  well = is.well;
}
told_line c cc site plan seed report bytes (Err fault) is told = told

-- a line that tells what was counted of sessions is that of these sessions
pub counted_line : {A E : Type 0} (c : Codecs) (cc : car.Codecs) (seed count : ℕ) (counted : Counts) (bytes : A → List ℕ) (made : Result A E) → AreCounts c cc seed count counted
    → IfOk made (λ line. bytes line ≡ generated_line count counted) → IfOk made (λ line. IsGeneratedLine c cc seed count (bytes line))
counted_line c cc seed count counted bytes (Ok line) are told = record {
  history = are.history;
  generated = are.generated;
  line_is = told ∙ ap (generated_line count) are.result_is;
}
counted_line c cc seed count counted bytes (Err fault) are told = told
