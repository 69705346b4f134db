use Rattle.std.proofs.Common.{lit<}
use Rattle.std.proofs.lemmas.Str.Pattern.{split_parts}
use Rattle.service_spec.proofs.Pieces.{halves}
use Rattle.service_spec.proofs.wants.halves_of.Goals as goal

pub returns : goal.returns
returns c = halves c.args.text.now c.split_once.result (split_parts 59 c.args.text.now c.split_once.result c.split_once.ensures.cases (lit< tt))
