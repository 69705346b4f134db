use Rattle.std.proofs.Common.{sym, subst, Option}
use Rattle.audit_readings.specs.Saying.{IsSame}
use Rattle.audit_streams.specs.declared.reader.ToldWord.{ToldWord}
use Rattle.audit_records.proofs.answers.answer_in.Goals as goal

pub returns : goal.returns
returns g c past h even =
    let s = c.said-said.ensures past h even in
    record {
      said = s.said;
      is = s.is;
      only = s.only;
      answer = c.answer_to.ensures c.args.plan.now c.args.told s.said
          (subst (λ (kept : Option ToldWord). IsSame c.args.plan.now c.args.told kept c.said-said.result s.said) (sym c.unanswered.ensures.value) s.same);
    }
