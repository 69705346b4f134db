use Rattle.std.proofs.Common.{None, Some, ◌++◌, ◌∷◌, [], lit<}
use Rattle.std.proofs.lemmas.Str.Pattern.{strip_prefix_char, strip_suffix_char}
use Rattle.service_spec.proofs.Pieces.{between}
use Rattle.service_spec.proofs.wants.inside.Goals as goal

pub returns-in-Some : goal.returns-in-Some
returns-in-Some c =
    between c.args.text.now c.in-Some.rest.now c.strip_suffix.result
    (strip_prefix_char 34 c.args.text.now (Some c.in-Some.rest) c.in-Some.ensures.cases (lit< tt))
    (strip_suffix_char 34 c.in-Some.rest.now c.strip_suffix.result c.strip_suffix.ensures.cases (lit< tt))

pub returns-in-None : goal.returns-in-None
returns-in-None c = λ t e. strip_prefix_char 34 c.args.text.now None c.in-None.ensures.cases (lit< tt) (t ++ 34 ∷ []) e
