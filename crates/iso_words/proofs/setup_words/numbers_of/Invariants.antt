use Rattle.std.proofs.Common.{◌≡◌, length, map, take}
use Rattle.iso_words.proofs.Parts.{service_id}
use Rattle.iso_words.proofs.setup_words.numbers_of.Given as goal

abbrev pub invariant-loop-service : goal.invariant-loop-service
invariant-loop-service l = (l.numbers.items ≡ map service_id (take l.service-index l.all)) × (length l.numbers.items ≡ l.service-index)
