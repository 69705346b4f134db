use Rattle.std.proofs.lemmas.List.{nil_from_length}
use Rattle.std.proofs.lemmas.Str.{IsUtf8-past_char, chars_past_char}
use Rattle.exi_bits.proofs.Texts.{next_is, same_behind, ends_both, no_chars}
use Rattle.exi_bits.proofs.span.BitSpan.same_str.Goals as goal

pub loop-c-preserved : goal.loop-c-preserved
loop-c-preserved c =
    let held = c.loop-c.invariant in
    let parts = c.in-Some.ensures.steps.0 in
    record {
      text = IsUtf8-past_char _ _ c.in-Some.c held.text parts;
      same = same_behind c.in-Some.c c.loop-c.mine c.next-in-loop-c.new.self _ _ _
          (next_is c.next-in-loop-c.result c.loop-c.mine c.next-in-loop-c.new.self c.from.result c.in-Some.c c.if-ne.ensures c.from.ensures c.next-in-loop-c.ensures)
          (chars_past_char _ _ c.in-Some.c held.text parts)
          held.same;
    }

pub returns : goal.returns
returns c =
    ends_both c.next-2.result c.is_none.result c.loop-c.mine c.next-2.new.self _ _ c.is_none.ensures c.next-2.ensures
    (no_chars _ (nil_from_length _ c.in-None.ensures.steps.0.0)) c.loop-c.invariant.same
