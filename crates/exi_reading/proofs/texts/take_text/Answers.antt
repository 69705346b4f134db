use Rattle.std.proofs.Common.{arith}
use Rattle.std.proofs.lemmas.Result.{err_from_is_err_and}
use Rattle.exi_reading.proofs.Announced.{local_ok, global_ok, local_refused, global_refused, length_refused, spelled_ok, spelled_refused}
use Rattle.exi_reading.proofs.texts.take_text.Goals as goal

pub returns-in_err-n-in_default-clause-refused : goal.returns-in_err-n-in_default-clause-refused
returns-in_err-n-in_default-clause-refused c =
    let p = err_from_is_err_and c.from_residual-in_err-n-in_default.result c.from_residual-in_err-n-in_default.ensures.1 in
    rw (p.1, p.2) (length_refused _ _ c.in_ok-announced.announced _ c.globals-has_room.result c.place-bit.result c.args.table.now.entries _ _ _ (omega arith) c.in_ok-announced.ensures.ok
    c.globals-has_room.ensures.entries c.in_err-n-in_default.ensures.refused c.in_err-n-in_default.ensures.at c.place-bit.ensures.place)

pub returns-in-0-clause-ok : goal.returns-in-0-clause-ok
returns-in-0-clause-ok c = local_ok _ _ _ _ _ _ _ _ c.in-0.is c.in_ok-announced.ensures.ok c.take_local.ensures.ok c.take_local.ensures.range

pub returns-in-0-clause-refused : goal.returns-in-0-clause-refused
returns-in-0-clause-refused c = local_refused _ _ _ _ _ _ _ c.in-0.is c.in_ok-announced.ensures.ok c.take_local.ensures.refused c.take_local.ensures.at

pub returns-in-1-clause-ok : goal.returns-in-1-clause-ok
returns-in-1-clause-ok c = global_ok _ _ _ _ _ _ _ _ c.in-1.is c.in_ok-announced.ensures.ok c.take_global.ensures.ok c.take_global.ensures.range

pub returns-in-1-clause-refused : goal.returns-in-1-clause-refused
returns-in-1-clause-refused c = global_refused _ _ _ _ _ _ _ c.in-1.is c.in_ok-announced.ensures.ok c.take_global.ensures.refused c.take_global.ensures.at

pub returns-in_ok-n-in_default-clause-ok : goal.returns-in_ok-n-in_default-clause-ok
returns-in_ok-n-in_default-clause-ok c =
    spelled_ok _ _ c.in_ok-announced.announced c.in_ok-n-in_default.n _ _ _ _ _ _ _ (omega (arith, c.in_ok-n-in_default.ensures.same)) c.in_ok-n-in_default.ensures.same c.in_ok-n-in_default.ensures.range
    c.in_ok-announced.ensures.ok c.take_spelled.ensures.count c.take_spelled.ensures.ok c.take_spelled.ensures.entry

pub returns-in_ok-n-in_default-clause-refused : goal.returns-in_ok-n-in_default-clause-refused
returns-in_ok-n-in_default-clause-refused c =
    spelled_refused _ _ c.in_ok-announced.announced c.in_ok-n-in_default.n _ c.globals-has_room.result c.args.table.now.entries _ _ _ (omega (arith, c.in_ok-n-in_default.ensures.same))
    c.in_ok-n-in_default.ensures.same c.in_ok-n-in_default.ensures.range c.in_ok-n-in_default.ensures.room c.globals-has_room.ensures.entries c.in_ok-announced.ensures.ok c.take_spelled.ensures.refused
