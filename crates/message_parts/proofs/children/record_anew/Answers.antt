use Rattle.std.proofs.Common.{refl}
use Rattle.message_parts.proofs.children.record_anew.Goals as goal

pub returns-clause-read : goal.returns-clause-read
returns-clause-read g c = λ F kind told h is. (_, refl, c.in_ok-record_here.ensures.read F kind told h is)
