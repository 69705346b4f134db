use Rattle.std.proofs.Common.{ap, sym, ◌∙◌, true, false}
use Rattle.session_words.specs.declared.facts.Facts.{Facts}
use Rattle.session_rules.specs.Moves.{next_row}
use Rattle.audit_rows.specs.declared.judging.PostValues.{PostValues}
use Rattle.audit_course.specs.Changes.{accepted_course}
use Rattle.audit_course.specs.Values.{stage_of, talked_of}
use Rattle.audit_course.proofs.Telling.{course_if, judged_told}
use Rattle.audit_course.proofs.course.TalkValues.asked.Goals as goal

pub returns-then-is_accepted : goal.returns-then-is_accepted
returns-then-is_accepted c =
    let v = c.verdict_on-verdict.ensures c.args.facts c.args.shown c.values_of-values.ensures in
    let same = ap (λ (w : PostValues). w.facts) c.values_of-values.ensures in
    let good = sym c.is_accepted.ensures.value ∙ c.if-is_accepted.true in
    c.accepted.ensures (v.row_is good ∙ ap (λ (f : Facts). next_row (stage_of c.args.self) f c.args.plan.now c.args.request.now.ask c.args.shown) (sym same))
    ∙ ap (λ (f : Facts). accepted_course (talked_of c.args.self) f c.args.plan.now c.args.request.now c.args.shown c.args.at) same
    ∙ judged_told (talked_of c.args.self) c.args.facts c.args.plan.now c.args.request.now c.args.shown c.args.at _ true v.code_is good

pub returns-else-is_accepted : goal.returns-else-is_accepted
returns-else-is_accepted c =
    let v = c.verdict_on-verdict.ensures c.args.facts c.args.shown c.values_of-values.ensures in
    ap (λ (w : PostValues). course_if false (talked_of c.args.self) w.facts c.args.plan.now c.args.request.now c.args.shown c.args.at) c.values_of-values.ensures
    ∙ judged_told (talked_of c.args.self) c.args.facts c.args.plan.now c.args.request.now c.args.shown c.args.at _ false v.code_is
    (sym c.is_accepted.ensures.value ∙ c.if-is_accepted.false)
