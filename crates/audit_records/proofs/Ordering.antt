-- Which orders are about a word, off what is kept of a post.
use Rattle.std.proofs.Common.{◌≡◌, ◌↔◌, ℕ, Bool, sym, ap, ◌∙◌, subst, List, Some}
use Rattle.std.specs.Prelude.{IsTrue}
use Rattle.charge_world.specs.declared.entry.Entry.{Entry}
use Rattle.session_words.specs.declared.phase.Standing.{Standing}
use Rattle.session_words.specs.declared.phase.Standing.TheVariants.{MustOpen}
use Rattle.session_words.specs.declared.plan.PostPlan.{PostPlan}
use Rattle.post_spec.specs.Contactors.{standing}
use Rattle.post_spec.specs.Course.{Course}
use Rattle.post_spec.specs.Steps.{Seen, seen}
use Rattle.told_pasts.specs.Course.{told_course}
use Rattle.told_pasts.specs.Reading.{IsReached}
use Rattle.told_pasts.specs.Steps.{ToldStep, seen_in}
use Rattle.audit_sessions.specs.declared.values.SessionValues.{SessionValues}
use Rattle.audit_sessions.specs.Values as sessions
use Rattle.audit_sessions.specs.Values.{AreSeen}
use Rattle.audit_contactors.specs.declared.values.ContactorValues.{ContactorValues}
use Rattle.audit_contactors.specs.Values as contactors
use Rattle.audit_course.specs.Coming.{IsDueNow}
use Rattle.audit_course.specs.Values.{course_of}
use Rattle.audit_course.specs.declared.course.CourseValues.{CourseValues}

pub seen_told : (k : ℕ) (past : List Entry) (steps : List ToldStep) (v : SessionValues) → seen_in steps ≡ seen k past → sessions.AreOf k past v → AreSeen (seen_in steps) v
seen_told k past steps v same h = subst (λ (p : List Seen). AreSeen p v) (sym same) h.seen_is

pub stands_told : (k : ℕ) (past : List Entry) (steps : List ToldStep) (v : ContactorValues) → seen_in steps ≡ seen k past → contactors.AreOf k past v
    → v.standing ≡ standing (seen_in steps)
stands_told k past steps v same h = h.stands ∙ ap standing (sym same)

-- an order to open would repeat one that failed
pub repeats_told : (steps : List ToldStep) (stands : Standing) (found : Bool) → (IsTrue found ↔ (stands ≡ MustOpen)) → stands ≡ standing (seen_in steps)
    → IsTrue found ↔ (standing (seen_in steps) ≡ MustOpen)
repeats_told steps stands found is same = (λ t. sym same ∙ is.0 t, λ h. is.1 (same ∙ h))

-- the deadline is reached
now_reached : (plan : PostPlan) (steps : List ToldStep) (v : CourseValues) → course_of v ≡ told_course plan steps → IsDueNow (course_of v).session (seen_in steps) → IsReached plan steps
now_reached plan steps v same d = record {
  talked = d.t;
  es = d.es;
  course_is = subst (λ (c : Course). c.session ≡ Some d.t) same d.talked_is;
  session_is = d.session_is;
  reached = d.reached;
  bound = d.bound;
}

reached_now : (plan : PostPlan) (steps : List ToldStep) (v : CourseValues) → course_of v ≡ told_course plan steps → IsReached plan steps → IsDueNow (course_of v).session (seen_in steps)
reached_now plan steps v same r = record {
  t = r.talked;
  es = r.es;
  talked_is = subst (λ (c : Course). c.session ≡ Some r.talked) (sym same) r.course_is;
  session_is = r.session_is;
  reached = r.reached;
  bound = r.bound;
}

pub reached_told : (plan : PostPlan) (steps : List ToldStep) (v : CourseValues) (found : Bool) → course_of v ≡ told_course plan steps
    → (IsTrue found ↔ IsDueNow (course_of v).session (seen_in steps)) → IsTrue found ↔ IsReached plan steps
reached_told plan steps v found same is = (λ t. now_reached plan steps v same (is.0 t), λ r. is.1 (reached_now plan steps v same r))
