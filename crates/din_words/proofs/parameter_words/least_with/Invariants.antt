use Rattle.std.proofs.Common.{◌≡◌, min, map, take}
use Rattle.std.specs.List.{fold}
use Rattle.din_words.proofs.Parts.{entry_power}
use Rattle.din_words.proofs.parameter_words.least_with.Given as goal

abbrev pub invariant-loop-entry : goal.invariant-loop-entry
invariant-loop-entry l = l.least ≡ fold min l.fn.first (map entry_power (take l.entry-index l.entries))
