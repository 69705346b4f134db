use Rattle.value_text.proofs.BestWords.{agreed_inside}
use Rattle.value_text.proofs.words.agreed_awaited.Goals as goal

pub returns-then-count-name-clause-agreed : goal.returns-then-count-name-clause-agreed
returns-then-count-name-clause-agreed c = agreed_inside c.args.text.now c.args.name.now c.args.end c.agreed-count.result c.requires c.agreed-count.ensures c.if-count-name.true
