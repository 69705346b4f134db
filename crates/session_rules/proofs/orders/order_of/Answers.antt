use Rattle.std.proofs.Common.{◌≡◌, true}
use Rattle.session_rules.specs.Verdict.{verdict, is_accepted}
use Rattle.session_rules.proofs.Targets.{target_within}
use Rattle.session_rules.proofs.orders.order_of.Goals as goal

pub pre_charge_order-requires : goal.pre_charge_order-requires
pre_charge_order-requires c =
    let accepted : is_accepted (verdict c.args.stage.now c.args.facts.now c.args.plan.now c.args.request.now) ≡ true = cc in
    target_within c.args.stage.now c.args.facts.now c.args.plan.now c.args.request.now c.in-PreCharge.ready c.in-PreCharge.soc c.in-PreCharge.voltage c.in-PreCharge.current c.in-PreCharge.is accepted
