use Rattle.std.proofs.Common.{take}
use Rattle.std.specs.Prelude.{All}
use Rattle.schedule_answers.specs.Choosing.{Misses}
use Rattle.schedule_answers.proofs.choosing.first_profile.Given as goal

abbrev pub invariant-loop-tuple : goal.invariant-loop-tuple
invariant-loop-tuple l = All (Misses l.need) (take l.tuple-index l.tuples)
