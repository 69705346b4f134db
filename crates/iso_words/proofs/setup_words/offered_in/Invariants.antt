use Rattle.std.proofs.Common.{◌≡◌, length, map, take}
use Rattle.iso_values.specs.Modes.{offered_of}
use Rattle.iso_words.proofs.setup_words.offered_in.Given as goal

abbrev pub invariant-loop-mode : goal.invariant-loop-mode
invariant-loop-mode l = (l.offered.items ≡ map offered_of (take l.mode-index l.all)) × (length l.offered.items ≡ l.mode-index)
