use Rattle.std.proofs.Common.{◌≡◌, max, map, take}
use Rattle.std.specs.List.{fold}
use Rattle.din_words.proofs.Parts.{entry_watts}
use Rattle.din_words.proofs.power_words.most_watts.Given as goal

abbrev pub invariant-loop-entry : goal.invariant-loop-entry
invariant-loop-entry l = l.most ≡ fold max 0 (map entry_watts (take l.entry-index l.entries))
