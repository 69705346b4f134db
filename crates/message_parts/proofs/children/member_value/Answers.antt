use Rattle.message_parts.proofs.Singles.{chosen_as, both}
use Rattle.message_parts.proofs.children.member_value.Goals as goal

pub returns-clause-read : goal.returns-clause-read
returns-clause-read g c = λ ks F members name kind d told chosen here among simple takes.
    let these = chosen_as _ F members told _ chosen name kind here among in
    both c.simple_inside.result _ _ these.0 (c.simple_inside.ensures.read ks F kind d told these.1 simple takes)
