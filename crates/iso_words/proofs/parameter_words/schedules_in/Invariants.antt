use Rattle.std.proofs.Common.{◌≡◌, length, map, take}
use Rattle.iso_words.proofs.Parts.{tuple_in}
use Rattle.iso_words.proofs.parameter_words.schedules_in.Given as goal

abbrev pub invariant-loop-tuple : goal.invariant-loop-tuple
invariant-loop-tuple l = (l.tuples.items ≡ map tuple_in (take l.tuple-index l.all)) × (length l.tuples.items ≡ l.tuple-index)
