use Rattle.std.proofs.Common.{refl, []}
use Rattle.app_schema.specs.Declarations.{kinds, request_particles}
use Rattle.app_protocol.proofs.message.AppReqReadRecord.read.Goals as goal

pub returns-clause-read : goal.returns-clause-read
returns-clause-read g c = λ F told h.
    let first = c.in_ok-first_child.ensures.read kinds F [] request_particles told h in
    c.in_ok-protocols.ensures.read F [] request_particles 0 _ first refl refl refl
