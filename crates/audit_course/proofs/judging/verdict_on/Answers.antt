use Rattle.audit_course.specs.Values.{stage_of}
use Rattle.audit_course.proofs.Telling.{code_told, row_told}
use Rattle.audit_course.proofs.judging.verdict_on.Goals as goal

pub returns : goal.returns
returns c facts shown same =
    let judged = c.judge_in-judged.ensures in
    record {
      code_is = code_told (stage_of c.args.talk.now) c.args.values.now facts shown c.args.plan.now c.args.request.now _ judged.code same;
      row_is = λ good. row_told (stage_of c.args.talk.now) c.args.values.now facts shown c.args.plan.now c.args.request.now _
          (c.row_behind.ensures c.args.values.now c.args.plan.now c.args.request.now judged good) same;
    }
