use Rattle.std.proofs.Common.{◌≡◌, ◌↔◌, IsUtf8, chars}
use Rattle.std.specs.Str.Iter.{chars_rest}
use Rattle.exi_bits.specs.Lent.{items_of}
use Rattle.exi_bits.proofs.span.BitSpan.same_str.Given as goal

abbrev pub invariant-loop-c : goal.invariant-loop-c
invariant-loop-c l = record {
  text : IsUtf8 (chars_rest l.c-iterator);
  same : (l.mine ≡ chars (chars_rest l.c-iterator)) ↔ (items_of l.fn.self ≡ chars l.fn.text);
}
