use Rattle.message_parts.proofs.Singles.{left_out}
use Rattle.message_parts.proofs.children.left_out.Goals as goal

pub returns : goal.returns
returns g c = record { read = λ ks F attributes declared at told h is. left_out ks F attributes declared at told _ h is }
