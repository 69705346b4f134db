use Rattle.std.proofs.Common.{refl}
use Rattle.iso_elements.proofs.brief.power_delivery_req.Goals as goal

pub returns-clause-read : goal.returns-clause-read
returns-clause-read g c = λ F told h here.
    c.in_ok-member.ensures.read F _ _ _ told h here refl refl
