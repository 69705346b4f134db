use Rattle.std.proofs.Common.{◌≡◌, ◌+◌, drop}
use Rattle.car_codec_laws.specs.Responding.{named_from}
use Rattle.car_codecs.proofs.negotiating.named.Given as goal

abbrev pub invariant-loop-i : goal.invariant-loop-i
invariant-loop-i l = named_from (l.i + 1) (drop l.i l.dialects) l.schema ≡ named_from 1 l.dialects l.schema
