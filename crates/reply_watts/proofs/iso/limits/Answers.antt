use Rattle.std.proofs.Common.{refl}
use Rattle.audit_watts.specs.Values.{no_watts}
use Rattle.reply_watts.proofs.IsoTrees.{ac_kept, dc_kept}
use Rattle.reply_watts.proofs.iso.limits.Goals as goal

pub returns-in-Ac : goal.returns-in-Ac
returns-in-Ac c =
    ac_kept c.args.plan.now c.args.spoken c.args.told c.args.parameter.now c.in-Ac.ac _ c.with_current.result c.in-Ac.is c.written.ensures.value
    (c.with_current.ensures c.args.spoken no_watts refl (c.new-none.ensures c.args.plan.now c.args.spoken c.args.told))

pub returns-in-Dc : goal.returns-in-Dc
returns-in-Dc c =
    dc_kept c.args.plan.now c.args.spoken c.args.told c.args.parameter.now c.in-Dc.dc _ c.with_power.result c.in-Dc.is c.written-in-Dc.ensures.value
    (c.with_power.ensures c.args.plan.now c.args.spoken no_watts refl (c.new-none.ensures c.args.plan.now c.args.spoken c.args.told))
