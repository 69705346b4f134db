use Rattle.message_parts.proofs.Singles.{chosen_as, both}
use Rattle.message_parts.proofs.children.member.Goals as goal

pub returns-clause-read : goal.returns-clause-read
returns-clause-read g c = λ F members name kind told chosen here among is.
    let these = chosen_as _ F members told _ chosen name kind here among in
    both c.record_inside.result _ _ these.0 (c.record_inside.ensures.read F kind told these.1 is)
