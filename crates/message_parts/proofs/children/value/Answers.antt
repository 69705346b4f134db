use Rattle.std.proofs.Common.{suc}
use Rattle.message_parts.specs.Particles.{name_at, kind_at}
use Rattle.message_parts.proofs.Singles.{taken, enters_once, behind_once}
use Rattle.message_parts.proofs.children.value.Goals as goal

pub returns-clause-read : goal.returns-clause-read
returns-clause-read g c = λ ks F attributes declared at told h once takes.
    let t = taken _ _ takes in
    let e = enters_once ks F attributes declared at told _ h once in
    let l = c.in_ok-value.ensures.read ks _ (kind_at declared at) t.0 _ e t.1 t.2 in
    c.in_ok-next_child.ensures.child ks F attributes declared (suc at) 0 _ (behind_once ks F attributes declared at told _ h once (name_at declared at) _ _ l)
