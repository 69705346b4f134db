use Rattle.std.proofs.Common.{take, map}
use Rattle.app_protocol.specs.Messages.{protocol_of}
use Rattle.app_protocol.specs.Winning.{Won}
use Rattle.app_protocol.proofs.negotiation.negotiate_among.Given as goal

abbrev pub invariant-loop-protocol : goal.invariant-loop-protocol
invariant-loop-protocol l = Won l.offers (map protocol_of (take l.protocol-index l.protocol-items)) l.best
