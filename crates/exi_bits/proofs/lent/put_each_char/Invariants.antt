use Rattle.std.proofs.Common.{length}
use Rattle.exi_spec.specs.Items.{shortest_chars}
use Rattle.exi_bits.specs.Written.{PutsFront}
use Rattle.exi_bits.proofs.lent.put_each_char.Given as goal

abbrev pub invariant-loop-char : goal.invariant-loop-char
invariant-loop-char l = PutsFront shortest_chars l.fn.room l.room l.at l.wrote l.fn.chars l.chars

abbrev pub decreases-loop-char : goal.decreases-loop-char
decreases-loop-char l = length l.chars
