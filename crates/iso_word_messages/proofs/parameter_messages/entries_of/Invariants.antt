use Rattle.std.proofs.Common.{◌≡◌, length, map}
use Rattle.std.specs.List.{range_with_len}
use Rattle.iso_word_messages.specs.Schedules.{entry_at}
use Rattle.iso_word_messages.proofs.parameter_messages.entries_of.Given as goal

abbrev pub invariant-loop-start : goal.invariant-loop-start
invariant-loop-start l = (l.entries.items ≡ map (entry_at l.power) (range_with_len 0 l.start)) × (length l.entries.items ≡ l.start)
