use Rattle.std.proofs.Common.{◌≡◌, sym, subst}
use Rattle.std.specs.Option.{option_map}
use Rattle.told_pasts.specs.Steps.{Said, Response}
use Rattle.audit_readings.specs.declared.replies.ToldSaid.{ToldSaid}
use Rattle.audit_readings.specs.Saying.{IsSame}
use Rattle.audit_records.specs.Sayings.{IsAnswer}
use Rattle.audit_records.proofs.answers.answer_to.Goals as goal

pub returns-in-Response : goal.returns-in-Response
returns-in-Response c plan told is same =
    let equal : is ≡ Response c.in-Response.chosen c.in-Response.positive =
    subst (λ (found : ToldSaid). IsSame plan told (option_map (λ word. word.now) c.args.word) found is) c.in-Response.is same in
    subst (λ (s : Said). IsAnswer plan told s c.response.result) (sym equal) (c.response.ensures plan told)
