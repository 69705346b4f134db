use Rattle.std.proofs.Common.{rules}
use Rattle.std.proofs.lemmas.Result.{on_ok_weaker, on_err_weaker}
use Rattle.std.proofs.lemmas.Int.{to_z-of_z}
use Rattle.std.specs.Int.{w64, w128}
use Rattle.exi_writing.proofs.Whole.{plain_bounded, puts_too, lacks_too}
use Rattle.exi_writing.proofs.items.put_number.Goals as goal

pub returns-in-Bounded-clause-ok : goal.returns-in-Bounded-clause-ok
returns-in-Bounded-clause-ok c =
    on_ok_weaker c.put_bounded.result
    (puts_too _ _ c.args.pen.now c.put_bounded.new.pen
    (λ bits s. plain_bounded c.args.datatype c.in-Bounded.least _ c.args.value _ c.in-Bounded.count bits c.in-Bounded.is
    (to_z-of_z w64 c.in-Bounded.least (search rules)) (to_z-of_z w128 c.args.value (search rules)) s))
    c.put_bounded.ensures.ok

pub returns-in-Bounded-clause-full : goal.returns-in-Bounded-clause-full
returns-in-Bounded-clause-full c =
    on_err_weaker c.put_bounded.result
    (lacks_too _ _ c.args.pen.now
    (λ bits s. plain_bounded c.args.datatype c.in-Bounded.least _ c.args.value _ c.in-Bounded.count bits c.in-Bounded.is
    (to_z-of_z w64 c.in-Bounded.least (search rules)) (to_z-of_z w128 c.args.value (search rules)) s))
    c.put_bounded.ensures.full
