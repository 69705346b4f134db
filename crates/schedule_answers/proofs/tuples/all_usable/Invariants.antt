use Rattle.std.proofs.Common.{◌≡◌, true, take}
use Rattle.std.specs.List.{list_all}
use Rattle.schedule_answers.specs.Usable.{usable}
use Rattle.schedule_answers.proofs.tuples.all_usable.Given as goal

abbrev pub invariant-loop-tuple : goal.invariant-loop-tuple
invariant-loop-tuple l = list_all usable (take l.tuple-index l.tuples) ≡ true
