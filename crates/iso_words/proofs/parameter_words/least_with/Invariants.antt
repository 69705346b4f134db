use Rattle.std.proofs.Common.{◌≡◌, min, map, take}
use Rattle.std.specs.List.{fold}
use Rattle.iso_words.proofs.Parts.{entry_power}
use Rattle.iso_words.proofs.parameter_words.least_with.Given as goal

abbrev pub invariant-loop-entry : goal.invariant-loop-entry
invariant-loop-entry l = l.least ≡ fold min l.fn.first (map (λ e. (entry_power e).size) (take l.entry-index l.entries))
