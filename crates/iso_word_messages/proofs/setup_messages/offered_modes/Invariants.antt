use Rattle.std.proofs.Common.{◌≡◌, length, map, take}
use Rattle.iso_values.specs.Modes.{offered_mode}
use Rattle.iso_word_messages.proofs.setup_messages.offered_modes.Given as goal

abbrev pub invariant-loop-mode : goal.invariant-loop-mode
invariant-loop-mode l = (l.offered.items ≡ map offered_mode (take l.mode-index l.all)) × (length l.offered.items ≡ l.mode-index)
