use Rattle.std.proofs.Common.{refl, ◌∷◌, []}
use Rattle.message_parts.proofs.Chosen.{IsOther, only_last}
use Rattle.app_schema.specs.declared.names.TheConstants.{REQUEST, RESPONSE}
use Rattle.app_protocol.specs.Messages.{root_members}
use Rattle.app_protocol.proofs.message.AppMessageChoice.read_member.Goals as goal

pub returns-then-is_at-clause-read : goal.returns-then-is_at-clause-read
returns-then-is_at-clause-read g c = λ F told chosen.
    c.in_ok-request.ensures.read F root_members REQUEST 6 told chosen (c.is_at.ensures.here c.if-is_at.true) refl refl

pub returns-clause-read : goal.returns-clause-read
returns-clause-read g c = λ F told chosen.
    let other : IsOther ((REQUEST, 6) ∷ []) c.args.descent.now.child = (c.is_at.ensures.absent c.if-is_at.false, tt {0}) in
    let here = only_last ((REQUEST, 6) ∷ []) (RESPONSE, 7) c.args.descent.now.child F.name chosen.kind chosen.here chosen.among other in
    c.in_ok-response.ensures.read F root_members RESPONSE 7 told chosen here refl refl
