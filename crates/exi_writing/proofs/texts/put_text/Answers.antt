use Rattle.std.proofs.Common.{arith}
use Rattle.std.proofs.lemmas.Result.{on_ok_weaker, on_err_weaker}
use Rattle.exi_bits.specs.Pens.{written_bits}
use Rattle.exi_reading.specs.Meaning.{texts_in}
use Rattle.exi_reading.proofs.Places.{local_of-texts, global_of-texts}
use Rattle.exi_writing.specs.Source.{chars_of}
use Rattle.exi_writing.proofs.Found.{same_count, first_below}
use Rattle.exi_writing.proofs.Pens.{always_on_err}
use Rattle.exi_writing.proofs.Strings.{are_kept, puts_local, lacks_local, puts_global, lacks_global, lacks_spelled, enters_text, puts_spelled, length-texts_in}
use Rattle.exi_writing.proofs.texts.put_text.Goals as goal

pub put_hit-requires : goal.put_hit-requires
put_hit-requires c =
    first_below _ _ c.locals.result c.in-Some.index
    (same_count (written_bits c.args.pen.now) _ _ _ (local_of-texts (written_bits c.args.pen.now) c.args.name c.args.table.now.entries) c.locals.ensures) c.in-Some.ensures

pub returns-in-Some-clause-ok : goal.returns-in-Some-clause-ok
returns-in-Some-clause-ok c =
    on_ok_weaker c.put_hit.result
    (puts_local c.args.pen.now c.put_hit.new.pen c.args.table.now.entries c.args.name c.locals.result c.in-Some.index _ c.requires.texts
    (same_count (written_bits c.args.pen.now) _ _ _ (local_of-texts (written_bits c.args.pen.now) c.args.name c.args.table.now.entries) c.locals.ensures)
    (omega (arith, c.globals-globals.ensures.entries, c.globals-globals.ensures.bound, c.requires.cap)) c.in-Some.ensures)
    c.put_hit.ensures.ok

pub returns-in-Some-clause-texts : goal.returns-in-Some-clause-texts
returns-in-Some-clause-texts c = are_kept c.args.pen.now c.put_hit.new.pen c.args.table.now.entries c.put_hit.ensures.more c.requires.texts

pub returns-in-Some-clause-full : goal.returns-in-Some-clause-full
returns-in-Some-clause-full c =
    on_err_weaker c.put_hit.result
    (lacks_local c.args.pen.now c.args.table.now.entries c.args.name c.locals.result c.in-Some.index _
    (same_count (written_bits c.args.pen.now) _ _ _ (local_of-texts (written_bits c.args.pen.now) c.args.name c.args.table.now.entries) c.locals.ensures)
    (omega (arith, c.globals-globals.ensures.entries, c.globals-globals.ensures.bound, c.requires.cap)) c.in-Some.ensures)
    c.put_hit.ensures.full

pub put_hit-requires-in-Some-find_global : goal.put_hit-requires-in-Some-find_global
put_hit-requires-in-Some-find_global c =
    first_below _ _ c.globals-globals.result c.in-Some-find_global.index
    (same_count (written_bits c.args.pen.now) _ _ _ (global_of-texts (written_bits c.args.pen.now) c.args.table.now.entries) c.globals-globals.ensures.count) c.in-Some-find_global.ensures

pub returns-in-Some-find_global-clause-ok : goal.returns-in-Some-find_global-clause-ok
returns-in-Some-find_global-clause-ok c =
    on_ok_weaker c.put_hit-in-Some-find_global.result
    (puts_global c.args.pen.now c.put_hit-in-Some-find_global.new.pen c.args.table.now.entries c.args.name c.globals-globals.result c.in-Some-find_global.index _ c.requires.texts
    (same_count (written_bits c.args.pen.now) _ _ _ (global_of-texts (written_bits c.args.pen.now) c.args.table.now.entries) c.globals-globals.ensures.count)
    (omega (arith, c.globals-globals.ensures.entries, c.globals-globals.ensures.bound, c.requires.cap)) c.in_default.ensures c.in-Some-find_global.ensures)
    c.put_hit-in-Some-find_global.ensures.ok

pub returns-in-Some-find_global-clause-texts : goal.returns-in-Some-find_global-clause-texts
returns-in-Some-find_global-clause-texts c =
    are_kept c.args.pen.now c.put_hit-in-Some-find_global.new.pen c.args.table.now.entries c.put_hit-in-Some-find_global.ensures.more c.requires.texts

pub returns-in-Some-find_global-clause-full : goal.returns-in-Some-find_global-clause-full
returns-in-Some-find_global-clause-full c =
    on_err_weaker c.put_hit-in-Some-find_global.result
    (lacks_global c.args.pen.now c.args.table.now.entries c.args.name c.globals-globals.result c.in-Some-find_global.index _
    (same_count (written_bits c.args.pen.now) _ _ _ (global_of-texts (written_bits c.args.pen.now) c.args.table.now.entries) c.globals-globals.ensures.count)
    (omega (arith, c.globals-globals.ensures.entries, c.globals-globals.ensures.bound, c.requires.cap)) c.in_default.ensures c.in-Some-find_global.ensures)
    c.put_hit-in-Some-find_global.ensures.full

pub returns-in_err-at-clause-texts : goal.returns-in_err-at-clause-texts
returns-in_err-at-clause-texts c = are_kept c.args.pen.now c.put_spelled.new.pen c.args.table.now.entries c.in_err-at.ensures.more c.requires.texts

pub returns-in_err-at-clause-full : goal.returns-in_err-at-clause-full
returns-in_err-at-clause-full c =
    always_on_err c.from_residual.result _
    (lacks_spelled c.args.pen.now (texts_in (written_bits c.args.pen.now) c.args.table.now.entries) c.args.name _
    (omega (arith, c.globals-globals.ensures.entries, c.globals-globals.ensures.bound, c.requires.cap, length-texts_in (written_bits c.args.pen.now) c.args.table.now.entries))
    c.requires.room c.in_default.ensures c.in_default-find_global.ensures c.in_err-at.ensures.full)

pub returns-clause-ok : goal.returns-clause-ok
returns-clause-ok c =
    let e = enters_text c.args.pen.now c.put_spelled.new.pen c.args.table.now.entries c.enter.new.table.entries c.args.name c.in_ok-at.at (chars_of c.args.text.now)
    c.requires.texts c.in_ok-at.ensures.ok c.in_ok-at.ensures.bit c.in_ok-at.ensures.count c.requires.scalar c.enter.ensures.entries in
    puts_spelled c.args.pen.now c.put_spelled.new.pen c.args.table.now.entries c.enter.new.table.entries c.args.name (chars_of c.args.text.now) e c.in_ok-at.ensures.ok
    (omega (arith, c.globals-globals.ensures.entries, c.globals-globals.ensures.bound, c.requires.cap))
    c.requires.room c.in_default.ensures c.in_default-find_global.ensures

pub returns-clause-texts : goal.returns-clause-texts
returns-clause-texts c =
    let e = enters_text c.args.pen.now c.put_spelled.new.pen c.args.table.now.entries c.enter.new.table.entries c.args.name c.in_ok-at.at (chars_of c.args.text.now)
    c.requires.texts c.in_ok-at.ensures.ok c.in_ok-at.ensures.bit c.in_ok-at.ensures.count c.requires.scalar c.enter.ensures.entries in
    e.are_texts
