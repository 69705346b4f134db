-- ISO 15118-2:2014, 8.8.3 and 8.8.4; DIN SPEC 70121:2014: what is judged of a request, off what is kept of a session.
use Rattle.std.specs.Prelude.{◌≡◌, ℕ, if◌then◌else◌, Some}
use Rattle.session_words.specs.declared.code.Code.{Code}
use Rattle.session_words.specs.declared.phase.Phase.{Phase}
use Rattle.session_words.specs.declared.plan.PostPlan.{PostPlan}
use Rattle.session_words.specs.declared.word.Request.{Request}
use Rattle.session_rules.specs.declared.stage.Stage.{Stage}
use Rattle.session_rules.specs.Moves.{next_row}
use Rattle.session_rules.specs.Verdict.{verdict, is_accepted}
use Rattle.audit_rows.specs.declared.judging.PostValues.{PostValues}
use Rattle.audit_rows.specs.declared.judging.Judged.{Judged}
use Rattle.audit_rows.specs.Rows.{number_behind}

-- the session in this row that the values tell. What it told last is no matter of a verdict
abbrev pub stage_of : Phase → PostValues → Stage
stage_of row v = record {
  row = row;
  dialect = v.dialect;
  session = v.session;
  told = 0;
  schedule = v.schedule;
  pre_charge = Some (record { target = v.last_target; voltage = v.last_voltage });
}

-- the row behind a request with this code: a FAILED one ends the session
abbrev pub next_by : Code → Stage → PostValues → PostPlan → Request → ℕ
next_by code s v plan r = if is_accepted code then number_behind r.ask (next_row s v.facts plan r.ask v.shown) else 0

pub record IsJudged (row : Phase) (v : PostValues) (plan : PostPlan) (r : Request) (judged : Judged) : Type 0 where
  pub code : judged.code ≡ verdict (stage_of row v) v.facts plan r
  pub next : judged.next ≡ next_by judged.code (stage_of row v) v plan r
