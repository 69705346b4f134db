use Rattle.std.proofs.Common.{lit<}
use Rattle.std.proofs.lemmas.Str.Pattern.{split_parts, split_after}
use Rattle.service_spec.proofs.Pieces.{cut_of}
use Rattle.service_spec.proofs.wants.parts_of.Goals as goal

pub returns-clause-cut : goal.returns-clause-cut
returns-clause-cut c = cut_of c.args.text.now 61 c.split_once.result (split_parts 61 c.args.text.now c.split_once.result c.split_once.ensures.cases (lit< tt))

pub returns-clause-first : goal.returns-clause-first
returns-clause-first c front behind e without = split_after 61 c.args.text.now front behind c.split_once.result c.split_once.ensures.cases (lit< tt) e without
