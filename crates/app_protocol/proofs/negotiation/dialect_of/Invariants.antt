use Rattle.std.proofs.Common.{All, take}
use Rattle.app_protocol.specs.Messages.{protocol_of}
use Rattle.app_protocol.specs.Negotiation.{Names}
use Rattle.app_protocol.proofs.negotiation.dialect_of.Given as goal

abbrev pub invariant-loop-dialect : goal.invariant-loop-dialect
invariant-loop-dialect l = All (λ d. Names (protocol_of l.protocol) d → ⊥) (take l.dialect-index l.offers)
