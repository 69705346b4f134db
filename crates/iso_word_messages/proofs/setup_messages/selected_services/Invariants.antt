use Rattle.std.proofs.Common.{◌≡◌, length, map, take}
use Rattle.iso_word_messages.proofs.Parts.{selected_service}
use Rattle.iso_word_messages.proofs.setup_messages.selected_services.Given as goal

abbrev pub invariant-loop-service : goal.invariant-loop-service
invariant-loop-service l = (l.selected.items ≡ map selected_service (take l.service-index l.all)) × (length l.selected.items ≡ l.service-index)
