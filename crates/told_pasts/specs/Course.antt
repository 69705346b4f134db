-- ISO 15118-2:2014, section 8.8.4: how far the words of a session have led it in a foreign trace. What its replies said of the voltage and
-- of the schedule counts, and not what they should have said.
use Rattle.std.specs.Prelude.{ℕ, List, [], ◌∷◌, Option, Some, None}
use Rattle.arrayvec.specs.ArrayVec.{ArrayVec}
use Rattle.session_words.specs.declared.limits.Tuple.{Tuple}
use Rattle.session_words.specs.declared.plan.PostPlan.{PostPlan}
use Rattle.session_words.specs.declared.word.Ask.{Ask}
use Rattle.session_words.specs.declared.word.Ask.TheVariants as ask
use Rattle.session_words.specs.declared.word.Tell.{Tell}
use Rattle.session_words.specs.declared.word.Tell.TheVariants as tell
use Rattle.session_rules.specs.declared.stage.PreCharged.{PreCharged}
use Rattle.session_rules.specs.declared.stage.Stage.{Stage}
use Rattle.post_spec.specs.Course.{Talked, Course, unmoved, opened, renew_heard, read_by, acted}
use Rattle.post_spec.specs.Sessions.{arriving}
use Rattle.post_spec.specs.Steps.{Send}
use Rattle.told_pasts.specs.Steps.{Said, Response, Replied, Other, Unasked, ToldStep, Hears, Does, Sends, seen_in}

-- the voltage of the last reply to PreCharge, with that request's target
abbrev pub pre_charge_said : Ask → Tell → Option PreCharged → Option PreCharged
pre_charge_said (ask.PreCharge ready soc voltage current) (tell.PreCharge status told) before =
    Some (record { target = voltage.size; voltage = told.size })
pre_charge_said asked other before = before

-- the power of the last schedule: the least of its first tuple
abbrev pub power_of : List Tuple → ℕ → ℕ
power_of [] before = before
power_of (tuple ∷ tuples) before = tuple.least.size

abbrev pub scheduled : Option (ArrayVec Tuple) → ℕ → ℕ
scheduled None before = before
scheduled (Some tuples) before = power_of tuples.items before

abbrev pub schedule_said : Tell → ℕ → ℕ
schedule_said (tell.ChargeParameters processing schedule limits) before = scheduled schedule before
schedule_said other before = before

abbrev pub stage_said : Said → Stage → Stage
stage_said (Response chosen positive) s = s
stage_said (Replied request reply watts) s =
    record s { schedule = schedule_said reply.tell s.schedule; pre_charge = pre_charge_said request.ask reply.tell s.pre_charge }
stage_said Other s = s
stage_said Unasked s = s

abbrev pub talked_said : Said → Option Talked → Option Talked
talked_said said None = None
talked_said said (Some t) = Some (record t { stage = stage_said said t.stage })

abbrev pub course_said : Said → Course → Course
course_said said c = record c { session = talked_said said c.session }

abbrev pub told_course : PostPlan → List ToldStep → Course
told_course plan [] = unmoved
told_course plan (Hears at event ∷ steps) =
    let c = opened (arriving (seen_in steps)) (told_course plan steps) in record c { renew = renew_heard event c.renew }
told_course plan (Does reading act taken ∷ steps) =
    let c = told_course plan steps in acted act taken (read_by c.session (seen_in steps) c plan reading)
told_course plan (Sends reading bytes taken said ∷ steps) =
    let c = told_course plan steps in acted (Send bytes) taken (course_said said (read_by c.session (seen_in steps) c plan reading))
