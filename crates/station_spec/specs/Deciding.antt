-- Own: what a post decides to do in a hearing without reading a word, part by part. A part is looked at once all that was decided
-- before it is done. ISO 15118-2:2014, section 8.7, has the deadlines.
use Rattle.std.specs.Prelude.{ℕ, ◌+◌, nat_le, nat_lt, Bool, false, ◌&&◌, if◌then◌else◌, Option, Some, None, Result, Ok, Err}
use Rattle.charge_world.specs.declared.heard.PlantEvent.{PlantEvent}
use Rattle.charge_world.specs.declared.heard.PlantEvent.TheVariants as plant
use Rattle.charge_world.specs.declared.ports.Order.{Order}
use Rattle.charge_world.specs.declared.ports.Order.TheVariants as order
use Rattle.session_words.specs.declared.cause.EndCause.{EndCause}
use Rattle.session_words.specs.declared.cause.EndCause.TheVariants.{BadFrame, Gone as ConnectionGone, RunOver, Impatient}
use Rattle.session_words.specs.declared.phase.Standing.{Standing}
use Rattle.session_words.specs.declared.phase.Standing.TheVariants as standing
use Rattle.session_words.specs.declared.plan.PostPlan.{PostPlan}
use Rattle.v2gtp_frames.specs.declared.FrameFault.{FrameFault}
use Rattle.v2gtp_frames.specs.Reading.{whole_at}
use Rattle.session_words.specs.Modes.{phases_of}
use Rattle.session_timers.specs.Due.{never}
use Rattle.session_timers.specs.Law.{span_of}
use Rattle.session_words.specs.Causes.{cause_of}
use Rattle.session_rules.specs.declared.causes.Watch.{Watch}
use Rattle.session_rules.specs.Allowed.{allowed_watts}
use Rattle.session_rules.specs.Causes.{plant_cause}
use Rattle.session_rules.specs.Deadlines.{timeout_of}
use Rattle.session_rules.specs.Reply.{waiting_reply}
use Rattle.session_rules.specs.Stages.{is_waiting}
use Rattle.post_spec.specs.Discovery.{answer_of}
use Rattle.post_spec.specs.Steps.{Event, Came, Bytes, Gone, Datagram, Plant, Clock, Over}
use Rattle.station_spec.specs.States.{Said, Agenda, Part, Repeating, Timing, Eventing, Wording, Session, State, nothing, is_done}

abbrev pub opening_if : Bool → Option Order
opening_if live = if live then Some order.Open else None

-- a session ends by a cause: Open first, where the contactor is live
abbrev pub ending_by : EndCause → Bool → Agenda
ending_by cause live = record nothing { order = opening_if live; ending = Some cause }

-- where a session lives
abbrev pub ending_in : Option Session → EndCause → Bool → Agenda
ending_in None cause live = nothing
ending_in (Some session) cause live = ending_by cause live

-- a contactor whose last order failed is ordered open again
abbrev pub repeating : Standing → Agenda
repeating standing.MustOpen = record nothing { order = Some order.Open }
repeating standing.Opened = nothing
repeating standing.Closing = nothing
repeating standing.Closed = nothing
repeating standing.Opening = nothing

-- when a session is due
abbrev pub due : Session → ℕ
due session = session.since + span_of (timeout_of session.stage.row)

-- a moment of 2^64 - 1 or more is never reached
abbrev pub is_reached : ℕ → ℕ → Bool
is_reached moment now = nat_le moment now && nat_lt moment never

abbrev pub timing : Option Session → ℕ → Bool → Agenda
timing None now live = nothing
timing (Some session) now live =
    if is_reached (due session) now then ending_by (cause_of (timeout_of session.stage.row)) live else nothing

-- what the rules of an event of the charger know
abbrev pub watch : PostPlan → Session → State → Watch
watch plan session s = record {
  row = session.stage.row;
  standing = s.stood;
  live = s.live;
  phases = phases_of plan.mode;
  allowed = allowed_watts session.stage.told session.lowered s.clock;
}

-- feedback of closed lets the waiting reply go
abbrev pub confirms : PlantEvent → Bool
confirms (plant.Feedback closed) = closed
confirms other = false

abbrev pub confirming : PostPlan → Session → PlantEvent → State → Agenda
confirming plan session event s =
    if is_waiting session.stage.row && confirms event
    then record nothing { reply = Some (Said session.stage.dialect (waiting_reply session.stage s.facts plan)) } else nothing

-- an event of the charger may be a cause
abbrev pub charging_by : Option EndCause → Agenda → Bool → Agenda
charging_by (Some cause) otherwise live = ending_by cause live
charging_by None otherwise live = otherwise

abbrev pub charging : PostPlan → Option Session → PlantEvent → State → Agenda
charging plan None event s = nothing
charging plan (Some session) event s = charging_by (plant_cause (watch plan session s) event) (confirming plan session event s) s.live

abbrev pub eventing : PostPlan → Event → State → Agenda
eventing plan (Came token) s = ending_in s.session ConnectionGone s.live
eventing plan (Bytes bytes) s = nothing
eventing plan Gone s = ending_in s.session ConnectionGone s.live
eventing plan (Datagram bytes) s = record nothing { datagram = answer_of plan.tcp bytes }
eventing plan (Plant event) s = charging plan s.session event s
eventing plan Clock s = nothing
eventing plan Over s = ending_in s.session RunOver s.live

-- the frame at the front of what is unread: a fault of it ends the session, and so does a whole frame while a reply waits
abbrev pub fronting_by : Result (Option ℕ) FrameFault → Bool → Bool → Agenda
fronting_by (Err fault) waiting live = ending_by BadFrame live
fronting_by (Ok None) waiting live = nothing
fronting_by (Ok (Some n)) waiting live = if waiting then ending_by Impatient live else nothing

abbrev pub fronting : Option Session → Bool → Agenda
fronting None live = nothing
fronting (Some session) live = fronting_by (whole_at session.unread) (is_waiting session.stage.row) live

-- what a part decided, or what the parts behind it decide
abbrev pub decide : Agenda → Part → State → State → State
decide agenda part s rest = if is_done agenda then rest else record s { agenda = agenda; part = part }

abbrev pub from_wording : State → State
from_wording s = decide (fronting s.session s.live) Wording s s

abbrev pub from_eventing : PostPlan → State → State
from_eventing plan s = decide (eventing plan s.event s) Wording s (from_wording s)

abbrev pub from_timing : PostPlan → State → State
from_timing plan s = decide (timing s.session s.clock s.live) Eventing s (from_eventing plan s)

abbrev pub from_repeating : PostPlan → State → State
from_repeating plan s = decide (repeating s.facts.contactor) Timing s (from_timing plan s)

abbrev pub from_part : PostPlan → Part → State → State
from_part plan Repeating s = from_repeating plan s
from_part plan Timing s = from_timing plan s
from_part plan Eventing s = from_eventing plan s
from_part plan Wording s = from_wording s

-- what is decided without a word, once all that was decided before is done
abbrev pub decided : PostPlan → State → State
decided plan s = if is_done s.agenda then from_part plan s.part s else s
