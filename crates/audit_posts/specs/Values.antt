-- ISO 15118-2:2014, sections 8.7 and 8.8; IEC 61851-1 and IEC 61851-23: all that is kept of a post in a foreign trace. Pasts and steps have their
-- newest item first.
use Rattle.std.specs.Prelude.{◌≡◌, ℕ, List, if◌then◌else◌}
use Rattle.charge_world.specs.declared.entry.Entry.{Entry}
use Rattle.session_words.specs.declared.plan.PostPlan.{PostPlan}
use Rattle.session_rules.specs.Asks.{shows_watts}
use Rattle.session_rules.specs.Finishing.{is_ac}
use Rattle.post_spec.specs.Steps.{seen}
use Rattle.told_pasts.specs.Course.{told_course}
use Rattle.told_pasts.specs.Spelling.{ToldCodecs, spelled_in}
use Rattle.told_pasts.specs.Steps.{Said, Response, Replied, Other, Unasked, ToldStep, seen_in}
use Rattle.told_pasts.specs.Talk.{spelled}
use Rattle.audit_sessions.specs.Values as sessions
use Rattle.audit_contactors.specs.Values as contactors
use Rattle.audit_mandates.specs.Values as mandates
use Rattle.audit_causes.specs.Values as causes
use Rattle.audit_course.specs.Values.{course_of}
use Rattle.audit_course.specs.declared.words.Saying.{Saying}
use Rattle.audit_course.specs.declared.words.Saying.TheVariants as saying
use Rattle.audit_posts.specs.declared.values.KeptPost.{KeptPost}

-- what is kept of post k behind a past, by which it went these steps
pub record AreOf (c : ToldCodecs) (plan : PostPlan) (k : ℕ) (past : List Entry) (steps : List ToldStep) (v : KeptPost) : Type 0 where
  pub seen_is : seen_in steps ≡ seen k past
  pub sessions_are : sessions.AreOf k past v.sessions
  pub contactor_is : contactors.AreOf k past v.contactor
  pub mandate_is : mandates.AreOf steps v.mandate
  pub ac_is : is_ac plan.mode ≡ v.mandate.ac
  pub causes_are : causes.AreOf c plan steps v.causes
  pub course_is : course_of v.course ≡ told_course plan steps
  pub spelled_is : v.spelled ≡ spelled plan steps

-- the greatest watts that a reply spells, where what was said is one
abbrev pub IsMost : PostPlan → Said → ℕ → Type 0
IsMost plan (Response chosen positive) most = Unit {0}
IsMost plan (Replied request reply watts) most = most ≡ spelled_in plan watts
IsMost plan Other most = Unit {0}
IsMost plan Unasked most = Unit {0}

-- the watts that the last reply spelled, behind something that was sent in a session that lives, or doesn't
abbrev pub spelled_said : Saying → ℕ → ℕ → ℕ
spelled_said (saying.Response chosen positive) most before = before
spelled_said (saying.Replied request reply) most before = if shows_watts request.ask then most else before
spelled_said saying.Other most before = before
spelled_said saying.Unasked most before = before
