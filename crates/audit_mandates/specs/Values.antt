-- ISO 15118-2:2014, section 8.8.4; IEC 61851-23: what is kept of a session in a foreign trace to tell whether its contactor may be closed,
-- and what a step changes of it.
use Rattle.std.specs.Prelude.{◌≡◌, ℕ, Bool, true, false, ◌&&◌, ◌||◌, if◌then◌else◌, List, [], Option, None, is_some, unwrap_or}
use Rattle.std.specs.List.{list_all}
use Rattle.charge_world.specs.declared.heard.IsolationLevel.{IsolationLevel}
use Rattle.charge_world.specs.declared.heard.PilotState.{PilotState}
use Rattle.charge_world.specs.declared.heard.PilotState.TheVariants.{A}
use Rattle.charge_world.specs.declared.offer.Dialect.{Dialect}
use Rattle.session_words.specs.declared.plan.PostPlan.{PostPlan}
use Rattle.session_words.specs.declared.word.Reply.{Reply}
use Rattle.session_words.specs.declared.word.Request.{Request}
use Rattle.contactor.specs.Rights.{is_ready}
use Rattle.session_rules.specs.Finishing.{is_valid}
use Rattle.session_rules.specs.Verdict.{is_accepted}
use Rattle.post_spec.specs.Checked.{off_in, pre_charge_off}
use Rattle.post_spec.specs.Codecs.{Asked}
use Rattle.post_spec.specs.Facts.{newer, told_by, pilot_in, isolation_in, pilot, isolation}
use Rattle.post_spec.specs.Kinds.{says_finished, asks_cable_check, asks_start, asks_opening}
use Rattle.post_spec.specs.Sessions.{arriving, session}
use Rattle.post_spec.specs.Steps.{Event, Came, Bytes, Gone, Datagram, Plant, Clock, Over}
use Rattle.post_spec.specs.Talk.{Negotiation, Answered}
use Rattle.post_spec.specs.Words.{HeardWord, Payload}
use Rattle.told_pasts.specs.Reading.{IsUnanswered}
use Rattle.told_pasts.specs.Spelling.{ToldCodecs}
use Rattle.told_pasts.specs.Steps.{ToldStep, seen_in}
use Rattle.told_pasts.specs.Talk.{is_judged, judged_over, talk}
use Rattle.audit_mandates.specs.declared.preparation.Preparation.{Preparation}
use Rattle.audit_mandates.specs.declared.values.MandateValues.{MandateValues}
use Rattle.audit_mandates.specs.Checking.{keeps_valid, isolated, is_checked}
use Rattle.audit_mandates.specs.Preparing.{unprepared, prepared, prepared_by, is_prepared}
use Rattle.audit_mandates.specs.Starting.{started, is_good}

-- what is kept of the post stands so behind these steps
pub record StandsSo (steps : List ToldStep) (arrived lives judged : Bool) (state judged_state : PilotState) (level : Option IsolationLevel) : Type 0 where
  pub arrived_is : arrived ≡ is_some (arriving (seen_in steps))
  pub lives_is : lives ≡ is_some (session (seen_in steps))
  pub judged_is : judged ≡ is_judged steps
  pub state_is : state ≡ pilot (seen_in steps)
  pub judged_state_is : judged_state ≡ pilot (judged_over steps)
  pub level_is : level ≡ isolation (seen_in steps)

-- and of what its session talked about
pub record TalksSo (steps : List ToldStep) (ac good : Bool) (preparation : Preparation) (held : Bool) (off : Option ℕ) (begun : Bool) : Type 0 where
  pub good_is : good ≡ list_all is_good (talk steps)
  pub preparation_is : preparation ≡ prepared (talk steps)
  pub held_is : held ≡ isolated steps
  pub off_is : off ≡ pre_charge_off (talk steps)
  pub begun_is : begun ≡ started ac steps

-- the values behind these steps
abbrev pub AreOf : List ToldStep → MandateValues → Type 0
AreOf steps v =
    StandsSo steps v.arrived v.lives v.judged v.pilot v.judged_pilot v.isolation
    × TalksSo steps v.ac v.good v.preparation v.isolated v.off v.started

-- and those of a post that gives this kind of current
abbrev pub StayOf : Bool → List ToldStep → MandateValues → Type 0
StayOf ac steps v = AreOf steps v × (v.ac ≡ ac)

abbrev pub at_first : Bool → MandateValues
at_first ac = record {
  ac = ac;
  arrived = false;
  lives = false;
  pilot = A;
  isolation = None;
  judged = false;
  judged_pilot = A;
  good = true;
  preparation = unprepared;
  isolated = false;
  off = None;
  started = false;
}

-- nothing was talked about
abbrev pub silent : MandateValues → MandateValues
silent v = record v { good = true; preparation = unprepared; isolated = false; off = None; started = false }

-- ---- a hearing

-- a connection that came in the block before opens a session
abbrev pub opened_by : MandateValues → MandateValues
opened_by v = if v.arrived then record (silent v) { arrived = false; lives = true; judged = false } else v

abbrev pub comes : Event → Bool
comes (Came token) = true
comes (Bytes bytes) = false
comes Gone = false
comes (Datagram bytes) = false
comes (Plant event) = false
comes Clock = false
comes Over = false

-- with what is heard
abbrev pub told_so : Event → MandateValues → MandateValues
told_so event w = record w {
  arrived = comes event;
  pilot = unwrap_or (told_by pilot_in event) w.pilot;
  isolation = if comes event then None else newer (told_by isolation_in event) w.isolation;
  isolated = w.isolated && keeps_valid event;
  started = w.started && (w.ac || keeps_valid event);
}

abbrev pub heard_by : Event → MandateValues → MandateValues
heard_by event v = told_so event (opened_by v)

-- ---- an act, for which a word was judged, or wasn't

abbrev pub judged_so : Bool → MandateValues → MandateValues
judged_so judged v = record v { judged = judged || v.judged; judged_pilot = if judged then v.pilot else v.judged_pilot }

abbrev pub ended_by : MandateValues → MandateValues
ended_by v = record (silent v) { lives = false; judged = false }

-- the session is ready for PowerDelivery Start
abbrev pub may : MandateValues → PilotState → Bool
may v state = is_prepared v.ac v.preparation && (is_checked v.ac v.isolated v.off && is_ready state)

abbrev pub responded_by : Option Dialect → MandateValues → MandateValues
responded_by chosen v = record v { good = is_some chosen && v.good; preparation = prepared_by (Negotiation chosen) v.preparation }

abbrev pub started_behind : Request → MandateValues → Bool
started_behind request v = if asks_opening request.ask then false else (asks_start request.ask && may v v.judged_pilot) || v.started

abbrev pub replied_by : Request → Reply → MandateValues → MandateValues
replied_by request reply v = record v {
  good = is_accepted reply.code && v.good;
  preparation = prepared_by (Answered request reply []) v.preparation;
  isolated = if asks_cable_check request.ask && says_finished reply.tell then is_valid v.isolation else v.isolated;
  off = newer (off_in request.ask reply.tell) v.off;
  started = started_behind request v;
}

-- what was sent says this, where a session lives
abbrev pub said_if : Bool → MandateValues → MandateValues → MandateValues
said_if lives said v = if lives then said else silent v

abbrev pub sent_by : Bool → MandateValues → MandateValues
sent_by judged v = record (judged_so judged v) { judged = false }

-- ---- off the values

-- PowerDelivery Start is the first word without a reply
pub record Starts (c : ToldCodecs) (plan : PostPlan) (steps : List ToldStep) : Type 0 where
  pub words : List HeardWord
  pub request : Request
  pub unanswered : IsUnanswered c.words plan.dialects.items (seen_in steps) words (Payload (Asked request))
  pub start : asks_start request.ask ≡ true

-- the pilot as that word was judged, or would be now
abbrev pub state_of : MandateValues → PilotState
state_of v = if v.judged then v.judged_pilot else v.pilot

abbrev pub is_mandated : Bool → MandateValues → Bool
is_mandated starting v = v.lives && (v.good && ((starting && may v (state_of v)) || v.started))
