use Rattle.std.proofs.Common.{refl}
use Rattle.iso_message.proofs.message.brief_anew.Goals as goal

pub returns-clause-read : goal.returns-clause-read
returns-clause-read g c = λ F told h.
    let it = c.in_ok-read_member_here.ensures.read F told h in
    (_, refl, it.0, it.1)
