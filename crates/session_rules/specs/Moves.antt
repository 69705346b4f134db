-- Own: what a session keeps behind a request.
use Rattle.std.specs.Prelude.{ℕ, false, nat_lt, if◌then◌else◌, Option, Some, None, unwrap_or}
use Rattle.session_words.specs.declared.code.Progress.TheVariants as progress
use Rattle.session_words.specs.declared.facts.Facts.{Facts}
use Rattle.session_words.specs.declared.phase.Phase.{Phase}
use Rattle.session_words.specs.declared.plan.PostPlan.{PostPlan}
use Rattle.session_words.specs.declared.session.SessionId.{SessionId}
use Rattle.session_words.specs.declared.word.Ask.{Ask}
use Rattle.session_words.specs.declared.word.Ask.TheVariants as ask
use Rattle.session_words.specs.declared.word.Request.{Request}
use Rattle.session_rules.specs.declared.stage.Stage.{Stage}
use Rattle.session_rules.specs.declared.stage.PreCharged.{PreCharged}
use Rattle.session_rules.specs.Rows.{leads}
use Rattle.session_rules.specs.Finishing.{is_ac, is_finished}
use Rattle.session_rules.specs.Asks.{shows_watts}
use Rattle.session_rules.specs.Offers.{p_max_of}
use Rattle.session_rules.specs.Verdict.{verdict, is_accepted, joins}

-- the row behind an accepted request
abbrev pub next_row : Stage → Facts → PostPlan → Ask → ℕ → Phase
next_row s facts plan asked shown = unwrap_or (leads s.row asked (is_finished facts plan asked shown) (is_ac plan.mode)) s.row

-- a paused session that is joined gives its identifier
abbrev pub session_if : Stage → Facts → SessionId → Ask → SessionId
session_if s facts named (ask.SessionSetup car) = if joins s.dialect facts named then named else s.session
session_if s facts named other = s.session

abbrev pub next_session : Stage → Facts → Request → SessionId
next_session s facts r = session_if s facts r.session r.ask

-- the schedule of a finished ChargeParameterDiscovery takes the place of the one before
abbrev pub next_schedule : Stage → Ask → ℕ → ℕ
next_schedule s (ask.ChargeParameters mode limits) shown = if nat_lt 0 shown then p_max_of s.dialect shown else s.schedule
next_schedule s other shown = s.schedule

abbrev pub next_pre_charge : Stage → Facts → Ask → Option PreCharged
next_pre_charge s facts (ask.PreCharge ready soc voltage current) = Some (record { target = voltage.size; voltage = facts.voltage })
next_pre_charge s facts other = s.pre_charge

abbrev pub moved : Stage → Facts → PostPlan → Request → ℕ → Stage
moved s facts plan r shown = record {
  row = next_row s facts plan r.ask shown;
  dialect = s.dialect;
  session = next_session s facts r;
  told = if shows_watts r.ask then shown else s.told;
  schedule = next_schedule s r.ask shown;
  pre_charge = next_pre_charge s facts r.ask;
}

-- behind a request: an accepted one moves the session, another one leaves it
abbrev pub stage_behind : Stage → Facts → PostPlan → Request → ℕ → Stage
stage_behind s facts plan r shown = if is_accepted (verdict s facts plan r) then moved s facts plan r shown else s

-- what an accepted request changes in the facts: SessionSetup uses up the kept identifier and says whether the session is
-- joined, and Renegotiate is what was asked for
abbrev pub facts_by : Stage → Facts → SessionId → Ask → Facts
facts_by s facts named (ask.SessionSetup car) = record facts { kept = None; joined = joins s.dialect facts named }
facts_by s facts named (ask.PowerDelivery progress.Renegotiate tuple profile) = record facts { renew = false }
facts_by s facts named other = facts

abbrev pub facts_moved : Stage → Facts → Request → Facts
facts_moved s facts r = facts_by s facts r.session r.ask

abbrev pub facts_behind : Stage → Facts → PostPlan → Request → Facts
facts_behind s facts plan r = if is_accepted (verdict s facts plan r) then facts_moved s facts r else facts
