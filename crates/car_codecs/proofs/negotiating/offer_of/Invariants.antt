use Rattle.std.proofs.Common.{◌≡◌, ◌+◌, ◌++◌, drop, length, map}
use Rattle.app_protocol.specs.Messages.{protocol_of}
use Rattle.car_codec_laws.specs.Offering.{entries_from, entries_of}
use Rattle.car_codecs.proofs.negotiating.offer_of.Given as goal

abbrev pub invariant-loop-i : goal.invariant-loop-i
invariant-loop-i l = record {
  count : length l.protocols.items ≡ l.i;
  entries : map protocol_of l.protocols.items ++ entries_from (l.i + 1) (drop l.i l.dialects) ≡ entries_of l.dialects;
}
