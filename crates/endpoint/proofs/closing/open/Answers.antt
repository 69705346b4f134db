use Rattle.charge_world.specs.declared.entry.Entry.{Entry}
use Rattle.charge_world.specs.declared.entry.Entry.TheVariants as entry
use Rattle.charge_world.specs.declared.ports.Order.TheVariants as order
use Rattle.endpoint.specs.Telling.{HasClosing}
use Rattle.endpoint.proofs.Carry.{carries_one}
use Rattle.endpoint.proofs.Orders.{one_closing}
use Rattle.endpoint.proofs.closing.open.Goals as goal

pub returns-clause-orders : goal.returns-clause-orders
returns-clause-orders g c blocks =
    let taken = c.perform.result.taken in
    let e : Entry = entry.Drove c.args.k order.Open taken in
    carries_one _ _ e (HasClosing blocks) (HasClosing blocks) c.perform.ensures.grown (λ past h. one_closing blocks past c.args.k taken h)
