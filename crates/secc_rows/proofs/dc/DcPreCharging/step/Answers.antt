use Rattle.std.proofs.Common.{rules, ◌≡◌, Some}
use Rattle.charge_world.specs.declared.ports.Order.TheVariants as order
use Rattle.session_rules.specs.Orders.{granted_order}
use Rattle.secc_rows.proofs.Rows.{starts_near}
use Rattle.secc_rows.proofs.dc.DcPreCharging.step.Goals as goal

pub right-right-requires-clause-near : goal.right-right-requires-clause-near
right-right-requires-clause-near c =
    let closes : granted_order c.args.by.plan.now c.args.self.carried.told 0 c.args.by.request.now.ask ≡ Some order.Close = search rules in
    starts_near c.args.self.carried c.args.by c.law_of_closing.ensures c.requires.accepted closes
