-- Own: what a post has left to do behind its past: what the newest hearing and its words ask for, less what was done of it.
use Rattle.std.specs.Prelude.{◌≡◌, ℕ, Bool, true, false, not, if◌then◌else◌, List, [], ◌∷◌, drop, map, Option, Some, None, is_some}
use Rattle.session_words.specs.declared.cause.EndCause.{EndCause}
use Rattle.session_words.specs.declared.cause.EndCause.TheVariants.{SendFailed, OrderFailed}
use Rattle.session_words.specs.declared.plan.PostPlan.{PostPlan}
use Rattle.session_rules.specs.Lines.{Line, line, first_line}
use Rattle.post_spec.specs.Codecs.{Codecs}
use Rattle.post_spec.specs.Contactors.{live}
use Rattle.post_spec.specs.Course.{course}
use Rattle.post_spec.specs.Facts.{now}
use Rattle.post_spec.specs.Sessions.{session}
use Rattle.post_spec.specs.Steps.{Act, Give, Send, Answer, End, Did, Reading, Step, Hears, Does, seen_of}
use Rattle.station_spec.specs.States.{Agenda, Part, Repeating, Timing, Eventing, Wording, State, nothing, is_done}
use Rattle.station_spec.specs.Deciding.{ending_by}
use Rattle.station_spec.specs.Acting.{state}
use Rattle.station_laws.specs.PostRuns.{IsPostRun}
use Rattle.read_runs.specs.Facts.{newest_event}
use Rattle.read_sessions.specs.Sessions.{IsSessionOf}
use Rattle.read_agendas.specs.Rows.{again, late, told, front, asked}

-- what is left, and the part of the hearing to which the post has come
pub record Left : Type 0 where
  pub part : Part
  pub agenda : Agenda

-- The rows of a hearing, in order, each with the part that comes behind it. One that asks for nothing is passed over.
abbrev pub row : Agenda → Part → Line Left
row agenda part = line (not (is_done agenda)) (record { part = part; agenda = agenda })

abbrev pub rows : PostPlan → List Step → List (Line Left)
rows plan steps =
    let past = map seen_of steps in
    let c = course plan steps in
    row (again past) Timing ∷
    row (late c.session (session past) (now past) (live past)) Eventing ∷
    row (told plan past c (newest_event past)) Wording ∷
    row (front (session past) (live past)) Wording ∷ []

abbrev pub looked_at : Part → ℕ
looked_at Repeating = 0
looked_at Timing = 1
looked_at Eventing = 2
looked_at Wording = 3

-- what an act was done of: what was left before it; else the word that was read for it; else the first row that asks for anything, of those
-- that weren't looked at yet in the hearing
abbrev pub begun : PostPlan → List Step → Option Reading → Left → Left
begun plan steps None before = first_line (drop (looked_at before.part) (rows plan steps)) before
begun plan steps (Some reading) before =
    record { part = Wording; agenda = asked plan (course plan steps).session (map seen_of steps) (course plan steps) reading }

abbrev pub in_hand : PostPlan → List Step → Option Reading → Left → Left
in_hand plan steps reading before = if is_done before.agenda then begun plan steps reading before else before

-- What is left of that behind an act. What failed ends a session that had no cause yet; behind a cause it drops the reply. A response to
-- a negotiation that matched nothing ends it too. `lives`: a session lives; `on`: the contactor is live behind the act.
abbrev pub failed : Option EndCause → EndCause → Bool → Bool → Agenda
failed None cause lives on = if lives then ending_by cause on else nothing
failed (Some ending) cause lives on = record nothing { ending = Some ending }

abbrev pub replied : Option EndCause → Bool → Bool → Agenda → Agenda
replied None lives on a = record a { reply = None }
replied (Some cause) lives on a = if lives then ending_by cause on else nothing

abbrev pub less : Act → Bool → Bool → Bool → Agenda → Agenda
less (Give order) true lives on a = record a { order = None }
less (Give order) false lives on a = failed a.ending OrderFailed lives on
less (Send bytes) true lives on a = replied a.behind_reply lives on a
less (Send bytes) false lives on a = failed a.ending SendFailed lives on
less (Answer bytes) taken lives on a = record a { datagram = None }
less (End cause) taken lives on a = nothing

abbrev pub left : PostPlan → List Step → Left
left plan [] = record { part = Wording; agenda = nothing }
left plan (Hears at event ∷ steps) = record { part = Repeating; agenda = nothing }
left plan (Does reading act taken ∷ steps) =
    let past = map seen_of steps in
    let h = in_hand plan steps reading (left plan steps) in
    record { part = h.part; agenda = less act taken (is_some (session past)) (live (Did act taken ∷ past)) h.agenda }

pub record IsLeft (l : Left) (s : State) : Type 0 where
  pub part_is : s.part ≡ l.part
  pub agenda_is : s.agenda ≡ l.agenda

-- behind the steps of a post in a run
abbrev pub AgendasAreRead : Codecs → Type 0
AgendasAreRead c = (plan : PostPlan) (steps : List Step) → IsPostRun c plan steps → IsLeft (left plan steps) (state plan steps)

-- and where nothing is left, the stream and the deadline of its session are read off the session's entries
abbrev pub SessionsAreReadBetween : Codecs → Type 0
SessionsAreReadBetween c = (plan : PostPlan) (steps : List Step) → IsPostRun c plan steps → is_done (left plan steps).agenda ≡ true
    → IsSessionOf (session (map seen_of steps)) (state plan steps).session
