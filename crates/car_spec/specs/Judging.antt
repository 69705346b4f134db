-- Own: what a car makes of a word. ISO 15118-2:2014, section 8.4, has the requests and replies.
use Rattle.std.specs.Prelude.{ℕ, if◌then◌else◌, is_some, List, Option, Some, None, Result, Ok, Err}
use Rattle.charge_world.specs.declared.offer.Dialect.{Dialect}
use Rattle.session_words.specs.declared.cause.EndCause.{EndCause}
use Rattle.session_words.specs.declared.cause.EndCause.TheVariants.{NoNegotiation, Refused as PayloadRefused, WrongSide as FromWrongSide, WrongReply}
use Rattle.session_words.specs.declared.plan.CarPlan.{CarPlan}
use Rattle.session_words.specs.declared.word.Reply.{Reply}
use Rattle.v2gtp_frames.specs.declared.FrameFault.{FrameFault}
use Rattle.v2gtp_frames.specs.Reading.{whole_at, payload_at, behind_front}
use Rattle.car_rules.specs.declared.stage.CarStage.{CarStage}
use Rattle.car_rules.specs.Deadlines.{due_at}
use Rattle.car_rules.specs.Moves.{is_again, order_of, stage_behind}
use Rattle.car_rules.specs.Replies.{reply_cause}
use Rattle.car_rules.specs.Stages.{first_stage}
use Rattle.car_spec.specs.Codecs.{Judged, Chosen, Told, WrongSide, Refused, Codecs, Judges}
use Rattle.car_spec.specs.States.{Wording, Session, State, nothing, is_done}
use Rattle.car_spec.specs.Deciding.{ending_by, asking}

-- a payload that has to be read now, in the schema of the negotiation or in a dialect
pub record Payload : Type 0 where
  pub dialect : Option Dialect
  pub bytes : List ℕ

abbrev pub dialect_of : Option CarStage → Option Dialect
dialect_of None = None
dialect_of (Some stage) = Some stage.dialect

-- the payload of the frame at the front of what is unread
abbrev pub payload_by : Result (Option ℕ) FrameFault → Session → Option Payload
payload_by (Err fault) session = None
payload_by (Ok None) session = None
payload_by (Ok (Some n)) session = Some (record { dialect = dialect_of session.stage; bytes = payload_at n session.unread })

abbrev pub payload_in : Option Session → Option Payload
payload_in None = None
payload_in (Some session) = payload_by (whole_at session.unread) session

-- the payload that has to be read now: all that was decided is done
abbrev pub wanted : State → Option Payload
wanted s = if is_done s.agenda then payload_in s.session else None

-- the session without the payload that was read. No reply is awaited behind it
abbrev pub passed : Session → Session
passed session = record session { unread = behind_front session.unread; moments = record session.moments { sent = None } }

abbrev pub ends : State → Session → EndCause → State
ends s session cause = record s { part = Wording; session = Some (passed session); agenda = ending_by cause s.live }

-- the session goes on to this stage, whose request is asked at once
abbrev pub gone_on : Session → CarStage → ℕ → Session
gone_on session stage now = record (passed session) {
  stage = Some stage;
  moments = record session.moments { sent = None; begun = now };
  again = None;
}

-- the request is asked once more, the car's pace behind the reply. Where that is past 2^64 - 1, it waits for ever
abbrev pub waiting : Session → CarStage → Option ℕ → Session
waiting session stage due = record (passed session) {
  stage = Some stage;
  again = due;
}

-- a dialect was chosen
abbrev pub chosen : CarPlan → State → Session → Option Dialect → State
chosen plan s session None = ends s session NoNegotiation
chosen plan s session (Some d) = record s {
  part = Wording;
  session = Some (gone_on session (first_stage plan d) s.clock);
  agenda = record nothing { spoken = asking plan (Some (first_stage plan d)) };
}

-- an accepted reply leads from one stage to the next: to the order and the next request, or to a wait
abbrev pub moved : CarPlan → State → Session → CarStage → Reply → CarStage → State
moved plan s session from r to =
    if is_again from.phase to.phase
    then record s { part = Wording; session = Some (waiting session to (due_at s.clock plan.pace)); agenda = nothing }
    else record s {
      part = Wording;
      session = Some (gone_on session to s.clock);
      agenda = record nothing { order = order_of plan from.phase r.tell; spoken = asking plan (Some to) };
    }

abbrev pub replied_by : Option EndCause → CarPlan → State → Session → CarStage → Reply → State
replied_by (Some cause) plan s session stage r = ends s session cause
replied_by None plan s session stage r = moved plan s session stage r (stage_behind plan stage r session.stop)

-- before a dialect is chosen, a reply is one of another kind
abbrev pub replied : CarPlan → State → Session → Option CarStage → Reply → State
replied plan s session None r = ends s session WrongReply
replied plan s session (Some stage) r =
    replied_by (reply_cause plan stage (is_some session.moments.sent) r) plan s session stage r

abbrev pub judged : CarPlan → State → Session → Judged → State
judged plan s session (Chosen dialect) = chosen plan s session dialect
judged plan s session (Told r) = replied plan s session session.stage r
judged plan s session WrongSide = ends s session FromWrongSide
judged plan s session Refused = ends s session PayloadRefused

abbrev pub judged_in : CarPlan → State → Option Session → Judged → State
judged_in plan s None word = s
judged_in plan s (Some session) word = judged plan s session word

-- what a car keeps behind a word
abbrev pub read : CarPlan → State → Judged → State
read plan s word = judged_in plan s s.session word

-- a payload is wanted, and is judged so
abbrev pub IsRead : Codecs → CarPlan → Option Payload → Judged → Type 0
IsRead c plan None word = ⊥
IsRead c plan (Some payload) word = Judges c plan.dialects.items payload.dialect payload.bytes word
