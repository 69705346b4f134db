use Rattle.std.proofs.Common.{arith}
use Rattle.exi_spec.specs.Bits.{bits_of}
use Rattle.exi_writing.proofs.Places.{global_of-texts, global_places, place_spelled}
use Rattle.exi_writing.proofs.Found.{same_count, first_there, not_there, all_passed}
use Rattle.exi_events.proofs.value.is_entered.Goals as goal

pub is_text_at-requires-clause-spelled : goal.is_text_at-requires-clause-spelled
is_text_at-requires-clause-spelled c = place_spelled (bits_of c.args.written.now) _ c.loop-i.i c.in-Some.at.now (global_places (bits_of c.args.written.now) c.args.table.now.entries c.requires.texts) c.in-Some.ensures

pub returns-then-is_text_at : goal.returns-then-is_text_at
returns-then-is_text_at c text is =
    let there = first_there (bits_of c.args.written.now) _ _ c.loop-i.i c.in-Some.at.now _ _ (global_of-texts (bits_of c.args.written.now) c.args.table.now.entries) c.in-Some.ensures (c.is_text_at.ensures text is) c.if-is_text_at.true (c.loop-i.invariant text is) in
    (c.loop-i.i, there.found)

pub loop-i-preserved : goal.loop-i-preserved
loop-i-preserved c text is =
    not_there (bits_of c.args.written.now) _ _ c.loop-i.i c.in-Some.at.now _ _ (global_of-texts (bits_of c.args.written.now) c.args.table.now.entries) c.in-Some.ensures (c.is_text_at.ensures text is) c.if-is_text_at.false (c.loop-i.invariant text is)

pub returns : goal.returns
returns c text is =
    let count = same_count (bits_of c.args.written.now) _ _ _ (global_of-texts (bits_of c.args.written.now) c.args.table.now.entries) c.globals-i-end.ensures.count in
    all_passed _ _ c.loop-i.i (omega (arith, count, c.loop-i-test.false)) (c.loop-i.invariant text is)
