-- Own: when a session is due, and what ends it. IEC 61851-1 (the pilot), IEC 61851-23 (isolation), ISO 15118-2:2014, sections 8.7 and
-- 8.8, have the reasons. What is due, told or heard is read off the past, without what the post has decided.
use Rattle.std.specs.Prelude.{◌≡◌, ◌≤◌, ◌<◌, ℕ, ◌+◌, Bool, true, false, List, [], ◌∷◌, map, Option, Some, None}
use Rattle.charge_world.specs.declared.heard.PlantEvent.{PlantEvent}
use Rattle.charge_world.specs.declared.ports.Order.{Order}
use Rattle.session_words.specs.declared.cause.EndCause.{EndCause}
use Rattle.session_words.specs.declared.cause.EndCause.TheVariants.{Gone as ConnectionGone, RunOver, SendFailed, OrderFailed, NoNegotiation}
use Rattle.session_words.specs.declared.cause.Timeout.{Timeout}
use Rattle.session_words.specs.declared.cause.Timeout.TheVariants.{Setup, Sequence, Feedback}
use Rattle.session_words.specs.declared.plan.PostPlan.{PostPlan}
use Rattle.session_words.specs.Causes.{cause_of}
use Rattle.session_words.specs.Modes.{phases_of}
use Rattle.session_rules.specs.Due.{never}
use Rattle.session_rules.specs.Law.{span_of}
use Rattle.session_rules.specs.declared.causes.Found.{Found}
use Rattle.session_rules.specs.declared.causes.Found.TheVariants as found
use Rattle.session_rules.specs.declared.causes.Watch.{Watch}
use Rattle.session_rules.specs.Causes.{plant_cause, found_by, word_cause}
use Rattle.session_rules.specs.Stages.{is_set_up}
use Rattle.session_rules.specs.Verdict.{verdict}
use Rattle.post_spec.specs.Codecs.{Judged, Negotiated, Asked, WrongSide, Refused, Codecs}
use Rattle.post_spec.specs.Course.{Talked, Course, course, facts_of, allowed_in}
use Rattle.post_spec.specs.Facts.{now}
use Rattle.post_spec.specs.Contactors.{standing, live_as_told}
use Rattle.post_spec.specs.Sessions.{session, stream, waits, came_at, replied_at, closed_at}
use Rattle.post_spec.specs.Steps.{Came, Gone, Plant, Over, Give, Send, Seen, Reading, Step, Hears, Does, seen_of}
use Rattle.post_spec.specs.Talk.{Negotiation, Talks}
use Rattle.post_spec.specs.Words.{HeardWord, Payload, Fault, Words, next_words}

-- the deadline that runs in a session, and the moment from which it counts
abbrev pub running : Bool → Bool → Timeout
running false waiting = Setup
running true false = Sequence
running true true = Feedback

abbrev pub counts_from : Timeout → List Seen → ℕ
counts_from Setup es = came_at es
counts_from Sequence es = replied_at es
counts_from Feedback es = closed_at es

abbrev pub is_set_up_in : Option Talked → Bool
is_set_up_in None = false
is_set_up_in (Some t) = is_set_up t.stage.row

-- when the session with these entries is due
abbrev pub due : Option Talked → List Seen → ℕ
due talked es = counts_from (running (is_set_up_in talked) (waits es)) es + span_of (running (is_set_up_in talked) (waits es))

-- what the next word is found to be. A negotiation that matches nothing is a cause behind its reply alone
abbrev pub found_judged : Talked → List Seen → Course → PostPlan → Judged → Found
found_judged t past c plan (Negotiated chosen response) = found.Negotiation true
found_judged t past c plan (Asked r) = found_by (verdict t.stage (facts_of past c) plan r) r.ask
found_judged t past c plan WrongSide = found.WrongSide
found_judged t past c plan Refused = found.Refused

abbrev pub found_word : Talked → List Seen → Course → PostPlan → HeardWord → Found
found_word t past c plan (Payload judged) = found_judged t past c plan judged
found_word t past c plan (Fault fault) = found.BadFrame

abbrev pub watch : PostPlan → Talked → List Seen → Bool → ℕ → Watch
watch plan t before live at = record {
  row = t.stage.row;
  standing = standing before;
  live = live;
  phases = phases_of plan.mode;
  allowed = allowed_in (Some t) at;
}

-- what ends the session that lives behind these steps, if it has no cause yet
pub data IsCause (c : Codecs) (plan : PostPlan) : List Step → EndCause → Type 0 where
  -- a deadline was reached
  IsDue : (steps : List Step) (t : Talked) (es : List Seen) → (course plan steps).session ≡ Some t → session (map seen_of steps) ≡ Some es
      → due (Some t) es ≤ now (map seen_of steps) → due (Some t) es < never
      → IsCause c plan steps (cause_of (running (is_set_up t.stage.row) (waits es)))
  -- the charger told something: behind the order to open, where one is owed
  IsTold : (at : ℕ) (event : PlantEvent) (steps : List Step) (t : Talked) (cause : EndCause)
      → (course plan (Hears at (Plant event) ∷ steps)).session ≡ Some t
      → plant_cause (watch plan t (map seen_of steps) (live_as_told (map seen_of steps)) at) event ≡ Some cause
      → IsCause c plan (Hears at (Plant event) ∷ steps) cause
  -- the connection ended, or another one came while it stood
  HasLeft : (at : ℕ) (steps : List Step) (es : List Seen) → session (map seen_of (Hears at Gone ∷ steps)) ≡ Some es
      → IsCause c plan (Hears at Gone ∷ steps) ConnectionGone
  HasCome : (at token : ℕ) (steps : List Step) (es : List Seen) → session (map seen_of (Hears at (Came token) ∷ steps)) ≡ Some es
      → IsCause c plan (Hears at (Came token) ∷ steps) ConnectionGone
  IsOver : (at : ℕ) (steps : List Step) (es : List Seen) → session (map seen_of (Hears at Over ∷ steps)) ≡ Some es
      → IsCause c plan (Hears at Over ∷ steps) RunOver
  -- a reply couldn't be sent, or the charger didn't take an order
  HasNotSent : (reading : Option Reading) (bytes : List ℕ) (steps : List Step) (es : List Seen)
      → session (map seen_of (Does reading (Send bytes) false ∷ steps)) ≡ Some es
      → IsCause c plan (Does reading (Send bytes) false ∷ steps) SendFailed
  HasNotDriven : (reading : Option Reading) (order : Order) (steps : List Step) (es : List Seen)
      → session (map seen_of (Does reading (Give order) false ∷ steps)) ≡ Some es
      → IsCause c plan (Does reading (Give order) false ∷ steps) OrderFailed
  -- the response to a negotiation that matched nothing was sent
  HasNoMatch : (reading : Option Reading) (bytes : List ℕ) (steps : List Step)
      → Talks c plan.dialects.items (map seen_of (Does reading (Send bytes) true ∷ steps)) (Negotiation None ∷ [])
      → IsCause c plan (Does reading (Send bytes) true ∷ steps) NoNegotiation
  -- the next word ends it
  IsWord : (steps : List Step) (t : Talked) (es : List Seen) (words rest : List HeardWord) (word : HeardWord) (cause : EndCause)
      → (course plan steps).session ≡ Some t → session (map seen_of steps) ≡ Some es
      → Words c plan.dialects.items (stream es) words → next_words es words ≡ word ∷ rest
      → word_cause (waits es) (found_word t (map seen_of steps) (course plan steps) plan word) ≡ Some cause
      → IsCause c plan steps cause
