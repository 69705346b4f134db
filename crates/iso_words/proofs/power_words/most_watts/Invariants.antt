use Rattle.std.proofs.Common.{◌≡◌, max, map, take}
use Rattle.std.specs.List.{fold}
use Rattle.iso_words.proofs.Parts.{profile_power}
use Rattle.iso_words.proofs.power_words.most_watts.Given as goal

abbrev pub invariant-loop-entry : goal.invariant-loop-entry
invariant-loop-entry l = l.most ≡ fold max 0 (map (λ e. (profile_power e).size) (take l.entry-index l.entries))
