use Rattle.reply_watts.proofs.IsoTrees.{with_schedules, without_schedules}
use Rattle.reply_watts.proofs.iso.parameters.Goals as goal

pub returns-in-Some : goal.returns-in-Some
returns-in-Some c =
    with_schedules c.args.plan.now c.args.spoken c.args.told c.args.reply.now c.in-Some.schedules c.limits-values.result c.with_schedules.result c.in-Some.is
    c.limits-values.ensures c.with_schedules.ensures

pub returns-in-None : goal.returns-in-None
returns-in-None c =
    without_schedules c.args.plan.now c.args.spoken c.args.told c.args.reply.now c.limits-values.result c.in-None.is c.limits-values.ensures
