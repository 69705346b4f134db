-- IEC 61851-1 (the pilot), IEC 61851-23 (isolation), ISO 15118-2:2014, sections 8.7 and 8.8: which causes come with a step of a foreign trace, off
-- what is kept of its post.
use Rattle.std.specs.Prelude.{◌≡◌, ◌≤◌, ◌<◌, ℕ, Bool, true, false, List, ◌∷◌, Option, Some, None, if◌then◌else◌}
use Rattle.session_words.specs.declared.cause.EndCause.{EndCause}
use Rattle.session_words.specs.declared.cause.EndCause.TheVariants.{Gone as ConnectionGone, RunOver}
use Rattle.session_words.specs.declared.facts.Facts.{Facts}
use Rattle.session_words.specs.declared.phase.Standing.{Standing}
use Rattle.session_words.specs.declared.plan.PostPlan.{PostPlan}
use Rattle.session_words.specs.Modes.{phases_of}
use Rattle.session_timers.specs.Due.{never}
use Rattle.charge_world.specs.declared.ports.Order.{Order}
use Rattle.charge_world.specs.declared.ports.Order.TheVariants as order
use Rattle.session_rules.specs.declared.causes.Found.{Found}
use Rattle.session_rules.specs.declared.causes.Found.TheVariants as found
use Rattle.session_rules.specs.declared.causes.Watch.{Watch}
use Rattle.session_rules.specs.declared.stage.Stage.{Stage}
use Rattle.session_rules.specs.Allowed.{allowed_watts}
use Rattle.session_rules.specs.Causes.{plant_cause, found_by, word_cause}
use Rattle.session_rules.specs.Verdict.{verdict}
use Rattle.post_spec.specs.Course.{Talked}
use Rattle.post_spec.specs.Causes.{due, found_word}
use Rattle.post_spec.specs.Contactors as contactors
use Rattle.post_spec.specs.Facts.{now}
use Rattle.post_spec.specs.Sessions.{session, waits}
use Rattle.post_spec.specs.Steps.{Event, Came, Bytes, Gone, Datagram, Plant, Clock, Over, Answer, End, Seen, Reading}
use Rattle.post_spec.specs.Words.{HeardWord}
use Rattle.audit_causes.specs.Values.{Comes}
use Rattle.audit_sessions.specs.declared.values.Moments.{Moments}
use Rattle.audit_sessions.specs.declared.values.SessionValues.{SessionValues}
use Rattle.audit_sessions.specs.Values.{AreSeen}
use Rattle.told_pasts.specs.Course.{told_course}
use Rattle.told_pasts.specs.Spelling.{ToldCodecs}
use Rattle.told_pasts.specs.Reading.{IsNext}
use Rattle.told_pasts.specs.Steps.{ToldStep, Does, seen_in}
use Rattle.audit_course.specs.declared.course.CourseValues.{CourseValues}
use Rattle.audit_course.specs.declared.words.NextWord.{NextWord}
use Rattle.audit_course.specs.declared.words.NextWord.TheVariants as next
use Rattle.audit_course.specs.declared.words.Saying.{Saying}
use Rattle.audit_course.specs.declared.words.Saying.TheVariants as saying
use Rattle.audit_course.specs.Values.{course_of, IsNextWord}

-- what is kept behind these steps: the course, the session, how the contactor stands, and the word that comes next
pub record Knows (c : ToldCodecs) (plan : PostPlan) (steps : List ToldStep) (course : CourseValues) (sessions : SessionValues) (stands : Standing) (next : Option NextWord) : Type 0 where
  pub course_is : course_of course ≡ told_course plan steps
  pub seen_is : AreSeen (seen_in steps) sessions
  pub stands_is : stands ≡ contactors.standing (seen_in steps)
  pub next_is : IsNextWord c plan steps next

-- what the next word is found to be
abbrev pub found_as : Stage → Facts → PostPlan → NextWord → Found
found_as s facts plan (next.Negotiation chosen) = found.Negotiation true
found_as s facts plan (next.Asked r) = found_by (verdict s facts plan r) r.ask
found_as s facts plan next.WrongSide = found.WrongSide
found_as s facts plan next.Refused = found.Refused
found_as s facts plan next.BadFrame = found.BadFrame

abbrev pub waits_in : Option Moments → Bool
waits_in None = false
waits_in (Some m) = m.waits

-- the cause that it is
abbrev pub cause_of_word : Option Talked → Bool → Facts → PostPlan → Option NextWord → Option EndCause
cause_of_word None waiting facts plan word = None
cause_of_word (Some t) waiting facts plan None = None
cause_of_word (Some t) waiting facts plan (Some word) = word_cause waiting (found_as t.stage facts plan word)

-- what is watched before a hearing at this moment
abbrev pub watch_of : PostPlan → Talked → Standing → Bool → ℕ → Watch
watch_of plan t stood live at = record {
  row = t.stage.row;
  standing = stood;
  live = live;
  phases = phases_of plan.mode;
  allowed = allowed_watts t.stage.told t.lowered at;
}

-- the cause that the hearing is
abbrev pub cause_of_event : Watch → Event → Option EndCause
cause_of_event w (Came token) = Some ConnectionGone
cause_of_event w (Bytes bytes) = None
cause_of_event w Gone = Some ConnectionGone
cause_of_event w (Datagram bytes) = None
cause_of_event w (Plant event) = plant_cause w event
cause_of_event w Clock = None
cause_of_event w Over = Some RunOver

abbrev pub cause_heard : Option Talked → PostPlan → Standing → Bool → ℕ → Event → Option EndCause
cause_heard None plan stood live at event = None
cause_heard (Some t) plan stood live at event = cause_of_event (watch_of plan t stood live at) event

abbrev pub gone_if : Bool → Option EndCause
gone_if mine = if mine then Some ConnectionGone else None

-- bytes came on the connection
abbrev pub brings : Event → Bool
brings (Bytes bytes) = true
brings (Came token) = false
brings Gone = false
brings (Datagram bytes) = false
brings (Plant event) = false
brings Clock = false
brings Over = false

-- a deadline of the session is reached
pub record IsDueNow (talked : Option Talked) (past : List Seen) : Type 0 where
  pub t : Talked
  pub es : List Seen
  pub talked_is : talked ≡ Some t
  pub session_is : session past ≡ Some es
  pub reached : due (Some t) es ≤ now past
  pub bound : due (Some t) es < never

-- the next word ends the session
pub record WordComes (c : ToldCodecs) (plan : PostPlan) (steps : List ToldStep) : Type 0 where
  pub t : Talked
  pub word : HeardWord
  pub cause : EndCause
  pub course_is : (told_course plan steps).session ≡ Some t
  pub next : IsNext c.words plan.dialects.items (seen_in steps) word
  pub judged : word_cause (waits next.es) (found_word t (seen_in steps) (told_course plan steps) plan word) ≡ Some cause

abbrev pub is_close : Order → Bool
is_close order.Close = true
is_close order.Open = false
is_close (order.Limits voltage current watts) = false

-- the response to a negotiation that matched nothing
abbrev pub is_unmatched : Saying → Bool
is_unmatched (saying.Response None positive) = true
is_unmatched (saying.Response (Some dialect) positive) = false
is_unmatched (saying.Replied request reply) = false
is_unmatched saying.Other = false
is_unmatched saying.Unasked = false

-- no cause comes with an answer to a datagram, nor with an end
abbrev pub AnswersAreNoCause : ToldCodecs → Type 0
AnswersAreNoCause c = (plan : PostPlan) (steps : List ToldStep) (reading : Option Reading) (bytes : List ℕ) (taken : Bool)
    → Comes c plan (Does reading (Answer bytes) taken ∷ steps) → ⊥

abbrev pub EndsAreNoCause : ToldCodecs → Type 0
EndsAreNoCause c = (plan : PostPlan) (steps : List ToldStep) (reading : Option Reading) (cause : ℕ) (taken : Bool)
    → Comes c plan (Does reading (End cause) taken ∷ steps) → ⊥

abbrev pub IdleActs : ToldCodecs → Type 0
IdleActs c = AnswersAreNoCause c × EndsAreNoCause c
