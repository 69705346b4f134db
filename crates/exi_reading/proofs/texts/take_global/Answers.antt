use Rattle.std.proofs.Common.{Bool, List, subst}
use Rattle.std.proofs.lemmas.Result.{err_from_is_err_and}
use Rattle.exi_bits.specs.Lent.{IsSpan, text_at}
use Rattle.exi_reading.proofs.Places.{global_of-texts, global_places, place_spelled}
use Rattle.exi_reading.proofs.Hits.{short_index, no_such_index, hit_ok, long_hit}
use Rattle.exi_reading.proofs.texts.take_global.Goals as goal

pub returns-in_err-index-clause-refused : goal.returns-in_err-index-clause-refused
returns-in_err-index-clause-refused c =
    let p = err_from_is_err_and c.from_residual.result c.from_residual.ensures.1 in
    rw (p.1, p.2) (short_index c.args.cursor.now.bits _ _ c.args.most c.globals.result c.index_width.result _ _
    (global_of-texts c.args.cursor.now.bits c.args.table.now.entries) c.globals.ensures.count c.index_width.ensures.least c.in_err-index.ensures.refused)

pub lend-requires-clause-spelled : goal.lend-requires-clause-spelled
lend-requires-clause-spelled c =
    subst (λ (l : List Bool). IsSpan (text_at l c.in-Some.at.now)) c.requires.bits
    (place_spelled c.args.cursor.now.bits _ c.in_ok-index.index c.in-Some.at.now (global_places c.args.cursor.now.bits c.args.table.now.entries c.requires.texts) c.in-Some.ensures)

pub returns-in-Some-clause-ok : goal.returns-in-Some-clause-ok
returns-in-Some-clause-ok c =
    hit_ok c.args.cursor.now.bits _ _ _ c.globals.result c.index_width.result c.in_ok-index.index c.in-Some.at.now _ _ _ c.requires.bits
    (global_of-texts c.args.cursor.now.bits c.args.table.now.entries) c.globals.ensures.count c.index_width.ensures.least c.in-Some.ensures c.in_ok-index.ensures.ok c.lend.ensures.text

pub returns-in-Some-clause-refused : goal.returns-in-Some-clause-refused
returns-in-Some-clause-refused c =
    long_hit c.args.cursor.now.bits _ _ _ c.args.most c.globals.result c.index_width.result c.in_ok-index.index _ c.in-Some.at.now _ _ _ c.requires.bits
    (global_of-texts c.args.cursor.now.bits c.args.table.now.entries) c.globals.ensures.count c.index_width.ensures.least c.in-Some.ensures c.in_ok-index.ensures.ok c.lend.ensures.long c.lend.ensures.refused

pub returns-in-None-clause-refused : goal.returns-in-None-clause-refused
returns-in-None-clause-refused c =
    no_such_index c.args.cursor.now.bits _ _ c.args.most c.globals.result c.index_width.result c.in_ok-index.index _ _
    (global_of-texts c.args.cursor.now.bits c.args.table.now.entries) c.globals.ensures.count c.index_width.ensures.least c.in-None.ensures c.in_ok-index.ensures.ok
