use Rattle.std.proofs.Common.{suc}
use Rattle.message_parts.specs.Particles.{name_at, kind_at}
use Rattle.message_parts.proofs.Singles.{enters_once, behind_once}
use Rattle.message_parts.proofs.children.required_here.Goals as goal

pub returns-clause-read : goal.returns-clause-read
returns-clause-read g c = λ F attributes declared at told h once is.
    let e = enters_once _ F attributes declared at told _ h once in
    let l = c.in_ok-record_here.ensures.read _ (kind_at declared at) _ e is in
    c.next_child.ensures.child _ F attributes declared (suc at) 0 _ (behind_once _ F attributes declared at told _ h once (name_at declared at) _ _ l)
