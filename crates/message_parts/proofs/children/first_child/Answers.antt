use Rattle.message_parts.proofs.Attributes.{begins}
use Rattle.message_parts.proofs.children.first_child.Goals as goal

pub returns-clause-read : goal.returns-clause-read
returns-clause-read g c = λ ks F attributes declared told h. c.next_child.ensures.child ks F attributes declared 0 0 told (begins ks F attributes declared told _ h)
