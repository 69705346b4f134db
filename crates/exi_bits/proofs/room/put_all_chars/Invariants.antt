use Rattle.std.proofs.Common.{IsUtf8}
use Rattle.std.specs.Str.Iter.{chars_rest}
use Rattle.exi_bits.proofs.Texts.{WroteChars}
use Rattle.exi_bits.proofs.room.put_all_chars.Given as goal

abbrev pub invariant-loop-c : goal.invariant-loop-c
invariant-loop-c l = record {
  text : IsUtf8 (chars_rest l.c-iterator);
  wrote : WroteChars l.fn.room l.room l.at l.wrote l.fn.text (chars_rest l.c-iterator);
}
