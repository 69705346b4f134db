use Rattle.std.proofs.Common.{◌≡◌, ◌+◌, ◌*◌, ◌≤◌, length, IsUtf8, chars}
use Rattle.std.specs.Str.Iter.{chars_rest}
use Rattle.exi_spec.specs.Items.{shortest_chars}
use Rattle.exi_bits.proofs.room.chars_bits.Given as goal

abbrev pub invariant-loop-c : goal.invariant-loop-c
invariant-loop-c l = record {
  text : IsUtf8 (chars_rest l.c-iterator);
  sum : l.bits + length (shortest_chars (chars (chars_rest l.c-iterator))) ≡ length (shortest_chars (chars l.fn.text));
  few : l.bits + 80 * length (chars_rest l.c-iterator) ≤ 80 * length l.fn.text;
}
