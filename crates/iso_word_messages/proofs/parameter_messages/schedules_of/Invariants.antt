use Rattle.std.proofs.Common.{◌≡◌, length, map, take}
use Rattle.iso_word_messages.specs.Schedules.{schedule_tuple}
use Rattle.iso_word_messages.proofs.parameter_messages.schedules_of.Given as goal

abbrev pub invariant-loop-tuple : goal.invariant-loop-tuple
invariant-loop-tuple l = (l.list.items ≡ map schedule_tuple (take l.tuple-index l.all)) × (length l.list.items ≡ l.tuple-index)
