use Rattle.std.proofs.Common.{◌≡◌, true, take}
use Rattle.std.specs.List.{list_all}
use Rattle.iso_words.proofs.Parts.{entry_power}
use Rattle.iso_words.proofs.parameter_words.are_right.Given as goal

abbrev pub invariant-loop-entry : goal.invariant-loop-entry
invariant-loop-entry l = list_all (λ e. (entry_power e).right) (take l.entry-index l.entries) ≡ true
