-- ISO 15118-2:2014, sections 8.4, 8.7 and 8.8; IEC 61851-1, annex A; IEC 61851-23: what ends a session that has no cause yet, at each place of
-- a post's past. At a place the first of these decides: a call that failed, the deadline, what was heard, the next word.
use Rattle.std.specs.Prelude.{◌≡◌, ℕ, Bool, true, false, not, ◌&&◌, List, [], ◌∷◌, map, Option, Some, None, is_some, Ok, ◌⊎◌}
use Rattle.charge_world.specs.declared.ports.Order.TheVariants as order
use Rattle.session_words.specs.declared.cause.EndCause.{EndCause}
use Rattle.session_words.specs.declared.cause.EndCause.TheVariants.{SendFailed, OrderFailed}
use Rattle.session_words.specs.declared.plan.PostPlan.{PostPlan}
use Rattle.v2gtp_frames.specs.Reading.{whole_at, payload_at, behind_frames}
use Rattle.session_rules.specs.Causes.{word_cause}
use Rattle.post_spec.specs.Causes.{found_judged}
use Rattle.post_spec.specs.Codecs.{Judged, Negotiated, Asked, WrongSide, Refused, Codecs, Judges}
use Rattle.post_spec.specs.Contactors.{live}
use Rattle.post_spec.specs.Course.{Talked, course}
use Rattle.post_spec.specs.Facts.{now}
use Rattle.post_spec.specs.Sessions.{session, stream, waits}
use Rattle.post_spec.specs.Steps.{Act, Give, Send, Answer, End, Seen, Reading, Step, Hears, Does, seen_of}
use Rattle.station_spec.specs.States.{Agenda, is_done}
use Rattle.station_spec.specs.Judging.{speaks, unmatched}
use Rattle.read_runs.specs.Facts.{newest_event}
use Rattle.read_sessions.specs.Sessions.{words_read}
use Rattle.read_agendas.specs.Rows.{again, late, told, front}

-- ---- a call

-- the response to a negotiation that matched nothing ends a session once it was sent
abbrev pub unmatched_by : Judged → Option EndCause
unmatched_by (Negotiated chosen response) = unmatched chosen
unmatched_by (Asked request) = None
unmatched_by WrongSide = None
unmatched_by Refused = None

abbrev pub unmatched_in : Option Reading → Option EndCause
unmatched_in None = None
unmatched_in (Some reading) = unmatched_by reading.judged

abbrev pub call_cause : Option Reading → Act → Bool → Option EndCause
call_cause reading (Give order) false = Some OrderFailed
call_cause reading (Give order) true = None
call_cause reading (Send bytes) false = Some SendFailed
call_cause reading (Send bytes) true = unmatched_in reading
call_cause reading (Answer bytes) taken = None
call_cause reading (End cause) taken = None

-- the cause that the newest step is as a call
abbrev pub done_cause : List Step → Option EndCause
done_cause [] = None
done_cause (Hears at event ∷ steps) = None
done_cause (Does reading act taken ∷ steps) = call_cause reading act taken

-- ---- a hearing

-- an order to open is owed: the last order failed before this hearing. It goes before all that was heard
abbrev pub is_owed : List Step → Bool
is_owed [] = false
is_owed (Hears at event ∷ steps) = not (is_done (again (map seen_of (Hears at event ∷ steps))))
is_owed (Does reading act taken ∷ steps) = false

-- what was heard is judged right behind the hearing; where an order to open is owed, behind that order, once it is taken
abbrev pub is_repeat : Option Reading → Act → Bool → Bool
is_repeat None (Give order.Open) true = true
is_repeat reading act taken = false

abbrev pub judges_heard : List Step → Bool
judges_heard [] = false
judges_heard (Hears at event ∷ steps) = not (is_owed (Hears at event ∷ steps))
judges_heard (Does reading act taken ∷ steps) = is_repeat reading act taken && is_owed steps

-- what a deadline asks for that has passed, and what was told asks for
abbrev pub lateness : PostPlan → List Step → Agenda
lateness plan steps = late (course plan steps).session (session (map seen_of steps)) (now (map seen_of steps)) (live (map seen_of steps))

abbrev pub telling : PostPlan → List Step → Agenda
telling plan steps = told plan (map seen_of steps) (course plan steps) (newest_event (map seen_of steps))

-- ---- a word

-- the next word's turn comes where the hearing asks for nothing, and behind a reply, an answer to a datagram, and a Close
abbrev pub goes_on : Act → Bool → Bool
goes_on (Give order.Close) taken = taken
goes_on (Give order.Open) taken = false
goes_on (Give (order.Limits voltage current watts)) taken = false
goes_on (Send bytes) taken = taken
goes_on (Answer bytes) taken = true
goes_on (End cause) taken = false

abbrev pub reads_on : List Step → Bool
reads_on [] = false
reads_on (Hears at event ∷ steps) = false
reads_on (Does reading act taken ∷ steps) = goes_on act taken && not (is_some (call_cause reading act taken))

-- what was heard is judged here, and neither a deadline nor the hearing itself asks for anything
pub record AsksNothing (plan : PostPlan) (steps : List Step) : Type 0 where
  pub judged : judges_heard steps ≡ true
  pub in_time : is_done (lateness plan steps) ≡ true
  pub asks_nothing : is_done (telling plan steps) ≡ true

abbrev pub IsWordsTurn : PostPlan → List Step → Type 0
IsWordsTurn plan steps = AsksNothing plan steps ⊎ (reads_on steps ≡ true)

-- what of the stream of a session is not read yet; and the payload at its front, as it is judged, where no reply waits
abbrev pub unread : List Seen → List ℕ
unread es = behind_frames (words_read es) (stream es)

pub record IsAtFront (c : Codecs) (plan : PostPlan) (t : Talked) (es : List Seen) (judged : Judged) : Type 0 where
  pub free : waits es ≡ false
  pub count : ℕ
  pub whole : whole_at (unread es) ≡ Ok (Some count)
  pub is : Judges c plan.dialects.items (speaks t.stage) (payload_at count (unread es)) judged

-- the payload of a session's next word ends it
pub record EndsByPayload (c : Codecs) (plan : PostPlan) (steps : List Step) (cause : EndCause) : Type 0 where
  pub t : Talked
  pub es : List Seen
  pub judged : Judged
  pub course_is : (course plan steps).session ≡ Some t
  pub session_is : session (map seen_of steps) ≡ Some es
  pub at_front : IsAtFront c plan t es judged
  pub cause_is : word_cause false (found_judged t (map seen_of steps) (course plan steps) plan judged) ≡ Some cause

-- ---- what applies

-- this cause applies behind these steps, in a session that has none yet
pub data Applies (c : Codecs) (plan : PostPlan) (steps : List Step) (cause : EndCause) : Type 0 where
  -- a reply couldn't be sent, the charger didn't take an order, or a negotiation matched nothing
  OfCall : is_some (session (map seen_of steps)) ≡ true → done_cause steps ≡ Some cause → Applies c plan steps cause
  -- a deadline has passed
  OfDeadline : judges_heard steps ≡ true → (lateness plan steps).ending ≡ Some cause → Applies c plan steps cause
  -- what was heard: an event of the charger, the end of the connection or another one, the end of the run
  OfHearing : judges_heard steps ≡ true → is_done (lateness plan steps) ≡ true → (telling plan steps).ending ≡ Some cause → Applies c plan steps cause
  -- the frame of the next word is wrong, or came while a reply waits
  OfFrame : IsWordsTurn plan steps → (front (session (map seen_of steps)) (live (map seen_of steps))).ending ≡ Some cause → Applies c plan steps cause
  -- its payload spells nothing, or no request, or one that is refused, or SessionStop
  OfPayload : IsWordsTurn plan steps → EndsByPayload c plan steps cause → Applies c plan steps cause
