use Rattle.std.proofs.Common.{rules, arith, sym, ◌∙◌}
use Rattle.car_rules.proofs.Responses.{port_missing}
use Rattle.car_rules.proofs.searching.port_of.Goals as goal

pub returns-in-Err : goal.returns-in-Err
returns-in-Err c =
    port_missing c.args.datagram.now (λ i. omega (arith, c.type_inv.datagram i)) (λ r is e. absurd (search (rules, sym c.in-Err.is ∙ c.read_response.ensures.readable r is e)))
