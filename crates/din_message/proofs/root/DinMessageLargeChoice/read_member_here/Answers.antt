use Rattle.std.proofs.Common.{refl, []}
use Rattle.message_parts.proofs.Chosen.{only_last}
use Rattle.din_message.specs.Documents.{din_roots}
use Rattle.din_schema.specs.declared.names.TheConstants.{V2G_MESSAGE}
use Rattle.din_schema.specs.declared.kinds.TheConstants.{V2G_MESSAGE_KIND}
use Rattle.din_message.proofs.root.DinMessageLargeChoice.read_member_here.Goals as goal

pub returns-clause-read : goal.returns-clause-read
returns-clause-read g c = λ F told h.
    c.member_here.ensures.read F din_roots V2G_MESSAGE V2G_MESSAGE_KIND told h
    (only_last [] (V2G_MESSAGE, V2G_MESSAGE_KIND) _ F.name h.kind h.here h.among tt) refl refl
