-- Own: what a post makes of a word. ISO 15118-2:2014, section 8.4, has the requests and replies.
use Rattle.std.specs.Prelude.{◌≡◌, ℕ, Bool, false, ◌&&◌, if◌then◌else◌, List, Option, Some, None, unwrap_or, Result, Ok, Err, MatchBool}
use Rattle.charge_world.specs.declared.offer.Dialect.{Dialect}
use Rattle.charge_world.specs.declared.ports.Order.{Order}
use Rattle.session_words.specs.declared.cause.EndCause.{EndCause}
use Rattle.session_words.specs.declared.cause.EndCause.TheVariants.{NoNegotiation, Refused as PayloadRefused, WrongSide as FromWrongSide}
use Rattle.session_words.specs.declared.phase.Phase.{Phase}
use Rattle.session_words.specs.declared.phase.Phase.TheVariants as row
use Rattle.session_words.specs.declared.plan.PostPlan.{PostPlan}
use Rattle.session_words.specs.declared.word.Request.{Request}
use Rattle.v2gtp_frames.specs.declared.FrameFault.{FrameFault}
use Rattle.v2gtp_frames.specs.Reading.{whole_at, payload_at, behind_front}
use Rattle.session_rules.specs.declared.stage.Stage.{Stage}
use Rattle.session_rules.specs.Allowed.{lowered_by}
use Rattle.session_rules.specs.Asks.{asks, shows_watts}
use Rattle.session_rules.specs.Causes.{found_by, word_cause}
use Rattle.session_rules.specs.Moves.{stage_behind, facts_behind}
use Rattle.session_rules.specs.Orders.{order_of}
use Rattle.session_rules.specs.Reply.{reply_to}
use Rattle.session_rules.specs.Stages.{negotiated, is_waiting}
use Rattle.session_rules.specs.Verdict.{verdict, is_accepted}
use Rattle.post_spec.specs.Codecs.{Judged, Negotiated, Asked, WrongSide, Refused, Codecs, Judges}
use Rattle.post_spec.specs.Steps.{Reading}
use Rattle.station_spec.specs.States.{Response, Said, Agenda, Wording, Session, State, nothing, is_done}
use Rattle.station_spec.specs.Deciding.{opening_if, ending_by, decided}

-- a payload that has to be read now, in the schema of the negotiation or in a dialect
pub record Payload : Type 0 where
  pub dialect : Option Dialect
  pub bytes : List ℕ

-- the dialect in which the words of a session are
abbrev pub speaks_in : Phase → Dialect → Option Dialect
speaks_in row.Connected dialect = None
speaks_in other dialect = Some dialect

abbrev pub speaks : Stage → Option Dialect
speaks stage = speaks_in stage.row stage.dialect

-- the payload of the frame at the front of what is unread
abbrev pub payload_by : Result (Option ℕ) FrameFault → Session → Option Payload
payload_by (Err fault) session = None
payload_by (Ok None) session = None
payload_by (Ok (Some n)) session = Some (record { dialect = speaks session.stage; bytes = payload_at n session.unread })

abbrev pub payload_in : Option Session → Option Payload
payload_in None = None
payload_in (Some session) = if is_waiting session.stage.row then None else payload_by (whole_at session.unread) session

-- the payload that has to be read now: all that was decided is done, and no reply waits
abbrev pub wanted : State → Option Payload
wanted s = if is_done s.agenda then payload_in s.session else None

-- Open where the session ends and the contactor is live; else the order of the request
abbrev pub order_by : Option EndCause → Bool → Option Order → Option Order
order_by None live order = order
order_by (Some cause) live order = opening_if live

-- the cause that a request is
abbrev pub cause_by : Stage → PostPlan → State → Request → Option EndCause
cause_by stage plan s r = word_cause false (found_by (verdict stage s.facts plan r) r.ask)

-- what is to be done about a request: the order, then the reply, which waits behind an accepted Start, then the end
abbrev pub asked_agenda : Session → PostPlan → State → Request → ℕ → Agenda
asked_agenda session plan s r shown = record nothing {
  order = order_by (cause_by session.stage plan s r) s.live (order_of session.stage s.facts plan r shown);
  reply = if is_waiting (stage_behind session.stage s.facts plan r shown).row then None
      else Some (Said session.stage.dialect (reply_to session.stage s.facts plan r shown));
  ending = cause_by session.stage plan s r;
}

-- a request that makes its reply show watts
abbrev pub shows : Stage → PostPlan → State → Request → Bool
shows stage plan s r = is_accepted (verdict stage s.facts plan r) && shows_watts r.ask

-- the watts that the session asks for behind a request
abbrev pub asked_behind : Session → PostPlan → State → Request → ℕ
asked_behind session plan s r =
    if is_accepted (verdict session.stage s.facts plan r) then unwrap_or (asks plan r.ask) session.asked else session.asked

abbrev pub asked_session : Session → PostPlan → State → Request → ℕ → Session
asked_session session plan s r shown = record {
  stage = stage_behind session.stage s.facts plan r shown;
  since = session.since;
  unread = behind_front session.unread;
  asked = asked_behind session plan s r;
  lowered = if shows session.stage plan s r then lowered_by session.stage.told session.lowered s.clock shown else session.lowered;
}

-- a negotiation leads to the dialect that was chosen; where none was, the session ends behind the response
abbrev pub chosen_stage : Stage → Option Dialect → Stage
chosen_stage stage None = stage
chosen_stage stage (Some dialect) = negotiated stage dialect

abbrev pub unmatched : Option Dialect → Option EndCause
unmatched None = Some NoNegotiation
unmatched (Some dialect) = None

abbrev pub passed : Session → Session
passed session = record session { unread = behind_front session.unread }

abbrev pub judged : PostPlan → State → Session → Judged → ℕ → State
judged plan s session (Negotiated chosen response) shown = record s {
  part = Wording;
  session = Some (record session { stage = chosen_stage session.stage chosen; unread = behind_front session.unread });
  agenda = record nothing { reply = Some (Response response); behind_reply = unmatched chosen };
}
judged plan s session (Asked r) shown = record s {
  part = Wording;
  facts = facts_behind session.stage s.facts plan r;
  session = Some (asked_session session plan s r shown);
  agenda = asked_agenda session plan s r shown;
}
judged plan s session WrongSide shown =
    record s { part = Wording; session = Some (passed session); agenda = ending_by FromWrongSide s.live }
judged plan s session Refused shown =
    record s { part = Wording; session = Some (passed session); agenda = ending_by PayloadRefused s.live }

abbrev pub taken_in : PostPlan → State → Option Session → Reading → State
taken_in plan s None reading = s
taken_in plan s (Some session) reading = judged plan s session reading.judged reading.shown

abbrev pub read : PostPlan → State → Option Reading → State
read plan s None = s
read plan s (Some reading) = taken_in plan s s.session reading

-- what is decided behind what was read
abbrev pub filled : PostPlan → Option Reading → State → State
filled plan reading s = read plan (decided plan s) reading

-- Shows asked shown: a post that asks for these watts is shown those. It is shown none but by a request that shows watts
abbrev pub IsShown : (ℕ → ℕ → Type 0) → PostPlan → State → Option Session → Judged → ℕ → Type 0
IsShown Shows plan s None word shown = shown ≡ 0
IsShown Shows plan s (Some session) (Asked r) shown =
    MatchBool (shows session.stage plan s r) (Shows (asked_behind session plan s r) shown) (shown ≡ 0)
IsShown Shows plan s (Some session) (Negotiated chosen response) shown = shown ≡ 0
IsShown Shows plan s (Some session) WrongSide shown = shown ≡ 0
IsShown Shows plan s (Some session) Refused shown = shown ≡ 0

-- a payload is read exactly where one is wanted: as it is judged, with the watts that are shown then
abbrev pub IsRead : Codecs → PostPlan → (ℕ → ℕ → Type 0) → State → Option Payload → Option Reading → Type 0
IsRead c plan Shows s None None = Unit {0}
IsRead c plan Shows s None (Some reading) = ⊥
IsRead c plan Shows s (Some payload) None = ⊥
IsRead c plan Shows s (Some payload) (Some reading) =
    Judges c plan.dialects.items payload.dialect payload.bytes reading.judged × IsShown Shows plan s s.session reading.judged reading.shown
