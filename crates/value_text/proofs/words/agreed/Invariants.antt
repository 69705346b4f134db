use Rattle.std.proofs.Common.{◌≡◌, take}
use Rattle.value_text.proofs.words.agreed.Given as goal

abbrev pub invariant-loop-count : goal.invariant-loop-count
invariant-loop-count l = take l.count l.bytes ≡ take l.count l.others
