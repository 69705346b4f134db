-- ISO 15118-2:2014, section 8.8.4: what is kept of how far the words of a session have led it in a foreign trace, and of the word that comes next.
use Rattle.std.specs.Prelude.{◌≡◌, ℕ, List, Option, Some, None, IfSome}
use Rattle.std.specs.Option.{option_map}
use Rattle.session_words.specs.declared.plan.PostPlan.{PostPlan}
use Rattle.session_rules.specs.declared.stage.PreCharged.{PreCharged}
use Rattle.session_rules.specs.declared.stage.Stage.{Stage}
use Rattle.post_spec.specs.Codecs.{Judged, Negotiated, Asked, WrongSide, Refused}
use Rattle.post_spec.specs.Course.{Talked, Course}
use Rattle.post_spec.specs.Steps.{Reading}
use Rattle.post_spec.specs.Words.{HeardWord, Payload, Fault}
use Rattle.told_pasts.specs.Reading.{IsNext}
use Rattle.told_pasts.specs.Spelling.{ToldCodecs}
use Rattle.told_pasts.specs.Steps.{Said, Response, Replied, Other, Unasked, ToldStep, seen_in}
use Rattle.audit_course.specs.declared.course.LastPreCharge.{LastPreCharge}
use Rattle.audit_course.specs.declared.course.TalkValues.{TalkValues}
use Rattle.audit_course.specs.declared.course.CourseValues.{CourseValues}
use Rattle.audit_course.specs.declared.words.NextWord.{NextWord}
use Rattle.audit_course.specs.declared.words.NextWord.TheVariants as next
use Rattle.audit_course.specs.declared.words.Saying.{Saying}
use Rattle.audit_course.specs.declared.words.Saying.TheVariants as saying

abbrev pub pre_charge_of : LastPreCharge → PreCharged
pre_charge_of last = record { target = last.target; voltage = last.voltage }

abbrev pub stage_of : TalkValues → Stage
stage_of v = record {
  row = v.row;
  dialect = v.dialect;
  session = v.session;
  told = v.told;
  schedule = v.schedule;
  pre_charge = option_map pre_charge_of v.pre_charge;
}

abbrev pub talked_of : TalkValues → Talked
talked_of v = record { stage = stage_of v; asked = v.asked; lowered = v.lowered }

-- the course that the values tell
abbrev pub course_of : CourseValues → Course
course_of v = record { session = option_map talked_of v.session; kept = v.kept; joined = v.joined; renew = v.renew }

-- ---- words, without what answers a negotiation, and without the fault of a frame

abbrev pub judged_as : Judged → NextWord
judged_as (Negotiated chosen response) = next.Negotiation chosen
judged_as (Asked request) = next.Asked request
judged_as WrongSide = next.WrongSide
judged_as Refused = next.Refused

abbrev pub word_as : HeardWord → NextWord
word_as (Payload judged) = judged_as judged
word_as (Fault fault) = next.BadFrame

-- the word that was judged for an act, and the watts that it was shown, where one was
abbrev pub IsRead : Option NextWord → ℕ → Option Reading → Type 0
IsRead None shown None = Unit {0}
IsRead None shown (Some reading) = ⊥
IsRead (Some word) shown None = ⊥
IsRead (Some word) shown (Some reading) = (word ≡ judged_as reading.judged) × (shown ≡ reading.shown)

-- the word that comes next behind these steps, if one does
pub record IsNextWord (c : ToldCodecs) (plan : PostPlan) (steps : List ToldStep) (next : Option NextWord) : Type 0 where
  pub told : (word : HeardWord) → IsNext c.words plan.dialects.items (seen_in steps) word → next ≡ Some (word_as word)
  pub is : IfSome next (λ w. (word : HeardWord) × IsNext c.words plan.dialects.items (seen_in steps) word)

-- ---- what was sent, without its watts

abbrev pub said_as : Said → Saying
said_as (Response chosen positive) = saying.Response chosen positive
said_as (Replied request reply watts) = saying.Replied request reply
said_as Other = saying.Other
said_as Unasked = saying.Unasked
