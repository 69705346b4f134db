-- ISO 15118-2:2014, section 8.8.4: what a step changes of the course of a session.
use Rattle.std.specs.Prelude.{◌≡◌, ℕ, Bool, true, if◌then◌else◌, Option, Some, None, unwrap_or}
use Rattle.std.specs.Option.{option_map}
use Rattle.session_words.specs.declared.facts.Facts.{Facts}
use Rattle.session_words.specs.declared.plan.PostPlan.{PostPlan}
use Rattle.session_words.specs.declared.word.Request.{Request}
use Rattle.session_rules.specs.declared.stage.PreCharged.{PreCharged}
use Rattle.session_rules.specs.declared.stage.Stage.{Stage}
use Rattle.session_rules.specs.Allowed.{lowered_by}
use Rattle.session_rules.specs.Asks.{asks, shows_watts}
use Rattle.session_rules.specs.Moves.{next_row, moved, facts_moved, facts_behind}
use Rattle.session_rules.specs.Verdict.{verdict, is_accepted}
use Rattle.session_rules.specs.Stages.{confirmed}
use Rattle.audit_rows.specs.declared.judging.PostValues.{PostValues}
use Rattle.post_spec.specs.Course.{Talked, Course, opened, renew_heard, chosen_talk, asked_course}
use Rattle.post_spec.specs.Steps.{Event, Seen}
use Rattle.told_pasts.specs.Course.{pre_charge_said, schedule_said}
use Rattle.audit_course.specs.declared.judging.Verdict.{Verdict}
use Rattle.audit_course.specs.declared.words.NextWord.{NextWord}
use Rattle.audit_course.specs.declared.words.NextWord.TheVariants as next
use Rattle.audit_course.specs.declared.words.Saying.{Saying}
use Rattle.audit_course.specs.declared.words.Saying.TheVariants as saying

-- a hearing, in whose block before this connection came, if one did
abbrev pub heard_by : Option Seen → Event → Course → Course
heard_by came event c = record (opened came c) { renew = renew_heard event (opened came c).renew }

-- a session that never pre-charged is as far off as one whose PreCharge missed its voltage by more than 20.0 V
abbrev pub last_of : Option PreCharged → PreCharged
last_of None = record { target = 201; voltage = 0 }
last_of (Some last) = last

-- the values by which a request is judged
abbrev pub values_of : Stage → Facts → ℕ → PostValues
values_of s facts shown = record {
  row = 0;
  dialect = s.dialect;
  session = s.session;
  facts = facts;
  last_target = (last_of s.pre_charge).target;
  last_voltage = (last_of s.pre_charge).voltage;
  schedule = s.schedule;
  shown = shown;
}

-- the verdict on a request, and the row behind it where it is accepted
pub record IsVerdict (s : Stage) (facts : Facts) (plan : PostPlan) (r : Request) (shown : ℕ) (v : Verdict) : Type 0 where
  pub code_is : v.code ≡ verdict s facts plan r
  pub row_is : is_accepted v.code ≡ true → v.row ≡ next_row s facts plan r.ask shown

-- an accepted request
abbrev pub moved_by : Facts → PostPlan → Request → ℕ → ℕ → Talked → Talked
moved_by facts plan r shown at t = record {
  stage = moved t.stage facts plan r shown;
  asked = unwrap_or (asks plan r.ask) t.asked;
  lowered = if shows_watts r.ask then lowered_by t.stage.told t.lowered at shown else t.lowered;
}

abbrev pub accepted_course : Talked → Facts → PostPlan → Request → ℕ → ℕ → Course
accepted_course t facts plan r shown at = record {
  session = Some (moved_by facts plan r shown at t);
  kept = (facts_moved t.stage facts r).kept;
  joined = (facts_moved t.stage facts r).joined;
  renew = (facts_moved t.stage facts r).renew;
}

-- a word was judged
abbrev pub read_as : Option Talked → Facts → ℕ → Course → PostPlan → NextWord → ℕ → Course
read_as None facts at c plan word shown = c
read_as (Some t) facts at c plan (next.Negotiation chosen) shown = record c { session = Some (chosen_talk t chosen) }
read_as (Some t) facts at c plan (next.Asked r) shown = asked_course t facts (facts_behind t.stage facts plan r) plan r shown at
read_as (Some t) facts at c plan next.WrongSide shown = c
read_as (Some t) facts at c plan next.Refused shown = c
read_as (Some t) facts at c plan next.BadFrame shown = c

abbrev pub read_if : Course → Facts → ℕ → PostPlan → Option NextWord → ℕ → Course
read_if c facts at plan None shown = c
read_if c facts at plan (Some word) shown = read_as c.session facts at c plan word shown

-- this was said
abbrev pub stage_as : Saying → Stage → Stage
stage_as (saying.Response chosen positive) s = s
stage_as (saying.Replied request reply) s =
    record s { schedule = schedule_said reply.tell s.schedule; pre_charge = pre_charge_said request.ask reply.tell s.pre_charge }
stage_as saying.Other s = s
stage_as saying.Unasked s = s

abbrev pub talked_as : Saying → Bool → Talked → Talked
talked_as said taken t = record t { stage = if taken then confirmed (stage_as said t.stage) else stage_as said t.stage }

-- bytes were sent
abbrev pub sent_by : Saying → Bool → Course → Course
sent_by said taken c = record c { session = option_map (λ t. talked_as said taken t) c.session }
