use Rattle.service_spec.proofs.Digits.{parsed_plain, parsed_minus}
use Rattle.service_spec.proofs.numbers.parsed.Goals as goal

pub returns-clause-plain : goal.returns-clause-plain
returns-clause-plain c is = rw c.ok.ensures.value (parsed_plain c.args.text.now c.parse.result c.parse.ensures.value.0 is)

pub returns-clause-minus : goal.returns-clause-minus
returns-clause-minus c ds e is = rw c.ok.ensures.value (parsed_minus c.args.text.now ds c.parse.result c.parse.ensures.value.0 e is)
