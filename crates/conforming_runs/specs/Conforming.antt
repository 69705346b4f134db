-- ISO 15118-2:2014, section 8.8: a session of a post in which the car, the charger and the outside do as they should, from its connection
-- up to its end or the end of the past: each word is a request in its row, each event goes well, nothing is late, no order and no reply
-- fails, and the connection stays until the session has ended. What was before it, and what became of other sessions, is not asked.
use Rattle.std.specs.Prelude.{◌≡◌, ◌<◌, ◌+◌, ℕ, Bool, true, false, List, [], ◌∷◌, length, map, Option, Some, None, IsSome, Ok}
use Rattle.session_words.specs.declared.plan.PostPlan.{PostPlan}
use Rattle.v2gtp_frames.specs.Frames.{Frames, IsRight}
use Rattle.v2gtp_frames.specs.Reading.{whole_at, behind_frames}
use Rattle.post_spec.specs.Causes.{due, watch}
use Rattle.post_spec.specs.Codecs.{Judged, Negotiated, Asked, WrongSide, Refused}
use Rattle.post_spec.specs.Course.{Talked, Course, course, facts_of}
use Rattle.post_spec.specs.Contactors.{live_as_told}
use Rattle.post_spec.specs.Sessions.{arriving, session, next_session, stream, replies, waits}
use Rattle.post_spec.specs.Steps.{Event, Came, Bytes, Gone, Datagram, Plant, Clock, Over, Act, Give, Send, Answer, End, Seen, Reading, Step, Hears, Does, seen_of}
use Rattle.post_spec.specs.Talk.{Unless}
use Rattle.conforming_runs.specs.Charger.{GoesWell}
use Rattle.conforming_runs.specs.Requests.{IsConforming}

-- Sessions are given with their entries, the newest first, and `before` is what the post went by up to the step that is spoken of.

-- the connection stays, and what the charger tells goes well
abbrev pub StaysWell : PostPlan → ℕ → Event → List Step → Talked → Type 0
StaysWell plan at (Plant event) before t =
    GoesWell (watch plan t (map seen_of before) (live_as_told (map seen_of before)) at) event
StaysWell plan at (Came token) before t = ⊥
StaysWell plan at Gone before t = ⊥
StaysWell plan at Over before t = ⊥
StaysWell plan at (Bytes bytes) before t = Unit {0}
StaysWell plan at (Datagram bytes) before t = Unit {0}
StaysWell plan at Clock before t = Unit {0}

-- a hearing in a session, before its deadline
pub record HearsWell (plan : PostPlan) (at : ℕ) (event : Event) (before : List Step) (t : Talked) (es : List Seen) : Type 0 where
  pub early : at < due (Some t) es
  pub stays : StaysWell plan at event before t

-- a word: the negotiation matches, and each later word is a request as a conforming car makes it
abbrev pub IsWord : PostPlan → List Step → Course → Talked → Judged → Type 0
IsWord plan before c t (Negotiated chosen response) = IsSome chosen
IsWord plan before c t (Asked r) = IsConforming t.stage (facts_of (map seen_of before) c) plan r
IsWord plan before c t WrongSide = ⊥
IsWord plan before c t Refused = ⊥

abbrev pub IsRead : PostPlan → List Step → Course → Option Talked → Option Reading → Type 0
IsRead plan before c talked None = Unit {0}
IsRead plan before c None (Some reading) = Unit {0}
IsRead plan before c (Some t) (Some reading) = IsWord plan before c t reading.judged

-- of the session that stands there
abbrev pub OfSession : Option Talked → Option (List Seen) → (Talked → List Seen → Type 0) → Type 0
OfSession None es P = Unit {0}
OfSession (Some t) None P = Unit {0}
OfSession (Some t) (Some es) P = P t es

-- orders and replies are taken. An answer to a datagram may fail
abbrev pub IsTaken : Act → Bool → Type 0
IsTaken (Answer bytes) taken = Unit {0}
IsTaken (Give order) taken = taken ≡ true
IsTaken (Send bytes) taken = taken ≡ true
IsTaken (End cause) taken = taken ≡ true

-- a hearing goes well for the session that it finds, and an act that was taken for the word that it answers
abbrev pub GoesOn : PostPlan → Step → List Step → Type 0
GoesOn plan (Hears at event) before =
    OfSession (course plan (Hears at event ∷ before)).session (next_session (map seen_of before)) (HearsWell plan at event before)
GoesOn plan (Does reading act taken) before =
    IsTaken act taken × IsRead plan before (course plan before) (course plan before).session reading

-- the frames of a session's stream are right, and none is whole behind that of PowerDelivery Start while the reply to it waits
pub record IsFramed (es : List Seen) : Type 0 where
  pub right : (payloads : List (List ℕ)) (rest : List ℕ) → Frames (stream es) payloads rest → IsRight rest
  pub alone : waits es ≡ true → whole_at (behind_frames (length (replies es) + 1) (stream es)) ≡ Ok None

abbrev pub AreFramed : Option (List Seen) → Type 0
AreFramed None = Unit {0}
AreFramed (Some es) = IsFramed es

pub record OneMore (plan : PostPlan) (step : Step) (before : List Step) (Earlier : Type 0) : Type 0 where
  pub earlier : Earlier
  pub goes_on : GoesOn plan step before
  pub framed : AreFramed (session (map seen_of (step ∷ before)))

-- The session to which these steps of a post have come, the newest first, conforms: of all that came behind the block of its
-- connection. In that block the session before it may still stand, and nothing is asked.
abbrev pub Conforming : PostPlan → List Step → Type 0
Conforming plan [] = Unit {0}
Conforming plan (step ∷ before) =
    Unless (arriving (map seen_of (step ∷ before))) (OneMore plan step before (Conforming plan before)) (Unit {0})
