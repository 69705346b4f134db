use Rattle.std.proofs.Common.{refl, []}
use Rattle.message_parts.proofs.Chosen.{only_last}
use Rattle.iso_message.specs.Documents.{iso_roots}
use Rattle.iso_schema.specs.declared.names.TheConstants.{V2G_MESSAGE}
use Rattle.iso_schema.specs.declared.kinds.TheConstants.{V2G_MESSAGE_KIND}
use Rattle.iso_message.proofs.root.IsoMessageLargeChoice.read_member_here.Goals as goal

pub returns-clause-read : goal.returns-clause-read
returns-clause-read g c = λ F told h.
    c.member_here.ensures.read F iso_roots V2G_MESSAGE V2G_MESSAGE_KIND told h
    (only_last [] (V2G_MESSAGE, V2G_MESSAGE_KIND) _ F.name h.kind h.here h.among tt) refl refl
