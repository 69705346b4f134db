use Rattle.std.proofs.Common.{length}
use Rattle.service_spec.specs.Pieces.{pieces_left}
use Rattle.service_spec.proofs.Reading.{IsReading}
use Rattle.service_spec.proofs.wants.want_of.Given as goal

abbrev pub invariant-loop-rest : goal.invariant-loop-rest
invariant-loop-rest l = IsReading l.word l.pairs.items (pieces_left l.rest)

abbrev pub decreases-loop-rest : goal.decreases-loop-rest
decreases-loop-rest l = length (pieces_left l.rest)
