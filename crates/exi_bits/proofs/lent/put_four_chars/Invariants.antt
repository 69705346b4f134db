use Rattle.std.proofs.Common.{length}
use Rattle.exi_spec.specs.Items.{shortest_chars}
use Rattle.exi_bits.specs.Written.{PutsFront}
use Rattle.exi_bits.proofs.lent.put_four_chars.Given as goal

abbrev pub invariant-loop-word : goal.invariant-loop-word
invariant-loop-word l = PutsFront shortest_chars l.fn.room l.room l.at l.wrote l.fn.chars l.chars

abbrev pub decreases-loop-word : goal.decreases-loop-word
decreases-loop-word l = length l.chars
