use Rattle.std.proofs.lemmas.Result.{err_from_is_err_and}
use Rattle.exi_reading.proofs.Parts.{refused_length, binary_announced}
use Rattle.exi_reading.proofs.items.take_binary.Goals as goal

pub returns-in_err-n-clause-refused : goal.returns-in_err-n-clause-refused
returns-in_err-n-clause-refused c =
    let p = err_from_is_err_and c.from_residual.result c.from_residual.ensures.1 in
    rw (p.1, p.2) (refused_length c.args.most c.from.result c.args.cursor.now c.in_err-n.field-0.0 c.from.ensures c.in_err-n.ensures.refused c.in_err-n.ensures.at)

pub returns-clause-ok : goal.returns-clause-ok
returns-clause-ok c = binary_announced _ _ _ _ _ c.in_ok-n.ensures.ok c.take_bytes.ensures.count c.take_bytes.ensures.ok
