use Rattle.std.proofs.Common.{refl}
use Rattle.iso_message.proofs.message.service_detail_res_anew.Goals as goal

pub returns-clause-read : goal.returns-clause-read
returns-clause-read g c = λ F told h here.
    let it = c.in_ok-member_here.ensures.read F _ _ _ told h here refl refl in
    (_, refl, it.0, it.1)
