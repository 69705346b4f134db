use Rattle.std.proofs.Common.{◌≡◌, ◌+◌, ◌*◌, ◌≤◌, length}
use Rattle.exi_spec.specs.Items.{shortest_chars}
use Rattle.exi_bits.specs.Lent.{items_of}
use Rattle.exi_bits.proofs.span.BitSpan.chars_bits.Given as goal

abbrev pub invariant-loop-char : goal.invariant-loop-char
invariant-loop-char l = record {
  sum : l.bits + length (shortest_chars l.chars) ≡ length (shortest_chars (items_of l.self));
  few : l.bits + 80 * length l.chars ≤ 80 * length (items_of l.self);
}

abbrev pub decreases-loop-char : goal.decreases-loop-char
decreases-loop-char l = length l.chars
