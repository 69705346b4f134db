use Rattle.std.proofs.Common.{length, ap, ◌∙◌, arith}
use Rattle.std.proofs.lemmas.List.{length-map}
use Rattle.exi_bits.specs.Pens.{written_bits}
use Rattle.exi_reading.specs.Table.{local_of}
use Rattle.exi_reading.proofs.Places.{text_of, local_of-texts}
use Rattle.exi_writing.proofs.Found.{first_there, not_there, all_passed}
use Rattle.exi_writing.proofs.Locals.{next_local, behind_local, passes_other, passed_locals}
use Rattle.exi_writing.proofs.texts.find_local.Goals as goal
use Rattle.exi_writing.proofs.texts.find_local.Goals.{then-entry-name+else-is_at, else-entry-name}

pub returns-then-is_at : goal.returns-then-is_at
returns-then-is_at c =
    first_there (written_bits c.args.pen.now) _ _ c.loop-entry.index _ _ _ (local_of-texts (written_bits c.args.pen.now) c.args.name c.args.table.now.entries)
    (next_local c.args.name _ c.args.table.now.entries c.loop-entry.entry-index c.loop-entry.index _ c.entries-entry-items.ensures.entries c.loop-entry-test.true c.if-entry-name.true c.loop-entry.invariant.left)
    c.is_at.ensures c.if-is_at.true c.loop-entry.invariant.before

pub loop-entry-preserved : goal.loop-entry-preserved
loop-entry-preserved c =
    elim c.if-entry-name.branch [
      | then-entry-name+else-is_at w ↦
          let found = next_local c.args.name _ c.args.table.now.entries c.loop-entry.entry-index c.loop-entry.index _ c.entries-entry-items.ensures.entries c.loop-entry-test.true w.if-entry-name.true c.loop-entry.invariant.left in
          record {
            few = omega (arith, w.index-is, c.loop-entry.invariant.few);
            left =
                rw w.index-is
                (behind_local c.args.name _ c.args.table.now.entries c.loop-entry.entry-index c.loop-entry.index _ c.entries-entry-items.ensures.entries c.loop-entry-test.true w.if-entry-name.true c.loop-entry.invariant.left);
            before =
                rw w.index-is
                (not_there (written_bits c.args.pen.now) _ _ c.loop-entry.index _ _ _ (local_of-texts (written_bits c.args.pen.now) c.args.name c.args.table.now.entries) found w.is_at.ensures w.if-is_at.false c.loop-entry.invariant.before);
          }
      | else-entry-name w ↦
          record {
            few = omega (arith, w.index-is, c.loop-entry.invariant.few);
            left =
                rw w.index-is
                (passes_other c.args.name _ c.args.table.now.entries c.loop-entry.entry-index c.loop-entry.index _ c.entries-entry-items.ensures.entries c.loop-entry-test.true w.if-entry-name.false c.loop-entry.invariant.left);
            before = rw w.index-is c.loop-entry.invariant.before;
          }
    ]

pub returns : goal.returns
returns c =
    let all = passed_locals c.args.name _ c.args.table.now.entries c.loop-entry.entry-index c.loop-entry.index c.entries-entry-items.ensures.entries c.loop-entry-test.false c.loop-entry.invariant.left in
    let long = ap length (local_of-texts (written_bits c.args.pen.now) c.args.name c.args.table.now.entries) ∙ length-map (local_of c.args.name c.args.table.now.entries) (text_of (written_bits c.args.pen.now)) in
    all_passed _ _ c.loop-entry.index (omega (arith, all, long)) c.loop-entry.invariant.before
