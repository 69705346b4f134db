-- Own: what the newest hearing and the words ask of a post, row by row, each over what is read off the past. ISO 15118-2:2014, sections 8.4,
-- 8.7 and 8.8, have the requests, the deadlines and the ends of sessions.
use Rattle.std.specs.Prelude.{ℕ, Bool, false, ◌&&◌, if◌then◌else◌, List, Option, Some, None}
use Rattle.charge_world.specs.declared.heard.PlantEvent.{PlantEvent}
use Rattle.session_words.specs.declared.cause.EndCause.{EndCause}
use Rattle.session_words.specs.declared.cause.EndCause.TheVariants.{Gone as ConnectionGone, RunOver, Refused as PayloadRefused, WrongSide as FromWrongSide}
use Rattle.session_words.specs.declared.facts.Facts.{Facts}
use Rattle.session_words.specs.declared.plan.PostPlan.{PostPlan}
use Rattle.session_words.specs.Causes.{cause_of}
use Rattle.v2gtp_frames.specs.Reading.{whole_at, behind_frames}
use Rattle.session_rules.specs.Causes.{plant_cause, word_cause}
use Rattle.session_rules.specs.Moves.{stage_behind}
use Rattle.session_rules.specs.Orders.{order_of}
use Rattle.session_rules.specs.Reply.{reply_to, waiting_reply}
use Rattle.session_rules.specs.Stages.{is_set_up, is_waiting}
use Rattle.post_spec.specs.Causes.{running, due, found_judged, watch}
use Rattle.post_spec.specs.Codecs.{Judged, Negotiated, Asked, WrongSide, Refused}
use Rattle.post_spec.specs.Contactors.{standing, live}
use Rattle.post_spec.specs.Course.{Talked, Course, facts_of}
use Rattle.post_spec.specs.Discovery.{answer_of}
use Rattle.post_spec.specs.Facts.{now}
use Rattle.post_spec.specs.Sessions.{stream, waits}
use Rattle.post_spec.specs.Steps.{Event, Came, Bytes, Gone, Datagram, Plant, Clock, Over, Seen, Reading}
use Rattle.station_spec.specs.States.{Response, Said, Agenda, nothing}
use Rattle.station_spec.specs.Deciding.{ending_by, repeating, is_reached, confirms, charging_by, fronting_by}
use Rattle.station_spec.specs.Judging.{order_by, unmatched}
use Rattle.read_runs.specs.Facts.{before_hearing}
use Rattle.read_sessions.specs.Sessions.{words_read}

-- In what follows `es` are the entries of the session that lives, and `on` says that the contactor is live.

-- a contactor whose last order failed is ordered open again
abbrev pub again : List Seen → Agenda
again past = repeating (standing past)

-- the deadline: a session that is late ends
abbrev pub late : Option Talked → Option (List Seen) → ℕ → Bool → Agenda
late None es at on = nothing
late (Some t) None at on = nothing
late (Some t) (Some es) at on =
    if is_reached (due (Some t) es) at then ending_by (cause_of (running (is_set_up t.stage.row) (waits es))) on else nothing

-- what was heard: an event of the charger ends the session, or lets the reply go that waits; a connection that ends or comes, and the end
-- of the run, end it; a request of discovery is answered
abbrev pub let_go : PostPlan → Talked → Facts → PlantEvent → Agenda
let_go plan t facts event =
    if is_waiting t.stage.row && confirms event
    then record nothing { reply = Some (Said t.stage.dialect (waiting_reply t.stage facts plan)) } else nothing

abbrev pub charged : PostPlan → Option Talked → List Seen → Course → PlantEvent → Agenda
charged plan None past c event = nothing
charged plan (Some t) past c event =
    charging_by (plant_cause (watch plan t (before_hearing past) (live past) (now past)) event) (let_go plan t (facts_of past c) event) (live past)

abbrev pub ended : Option Talked → EndCause → Bool → Agenda
ended None cause on = nothing
ended (Some t) cause on = ending_by cause on

abbrev pub told : PostPlan → List Seen → Course → Event → Agenda
told plan past c (Came token) = ended c.session ConnectionGone (live past)
told plan past c (Bytes bytes) = nothing
told plan past c Gone = ended c.session ConnectionGone (live past)
told plan past c (Datagram bytes) = record nothing { datagram = answer_of plan.tcp bytes }
told plan past c (Plant event) = charged plan c.session past c event
told plan past c Clock = nothing
told plan past c Over = ended c.session RunOver (live past)

-- the frame at the front of what is unread: a fault ends the session, and so does a whole frame while a reply waits
abbrev pub front : Option (List Seen) → Bool → Agenda
front None on = nothing
front (Some es) on = fronting_by (whole_at (behind_frames (words_read es) (stream es))) (waits es) on

-- a word that was read: the order, then the reply, which waits behind an accepted Start, then the end, where it ends the session
abbrev pub word_asks : PostPlan → Talked → List Seen → Course → Judged → ℕ → Agenda
word_asks plan t past c (Negotiated chosen response) shown = record nothing { reply = Some (Response response); behind_reply = unmatched chosen }
word_asks plan t past c (Asked r) shown = record nothing {
  order = order_by (word_cause false (found_judged t past c plan (Asked r))) (live past) (order_of t.stage (facts_of past c) plan r shown);
  reply = if is_waiting (stage_behind t.stage (facts_of past c) plan r shown).row then None
      else Some (Said t.stage.dialect (reply_to t.stage (facts_of past c) plan r shown));
  ending = word_cause false (found_judged t past c plan (Asked r));
}
word_asks plan t past c WrongSide shown = ending_by FromWrongSide (live past)
word_asks plan t past c Refused shown = ending_by PayloadRefused (live past)

abbrev pub asked : PostPlan → Option Talked → List Seen → Course → Reading → Agenda
asked plan None past c reading = nothing
asked plan (Some t) past c reading = word_asks plan t past c reading.judged reading.shown
