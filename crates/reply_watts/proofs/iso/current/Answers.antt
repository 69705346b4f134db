use Rattle.std.proofs.Common.{refl}
use Rattle.audit_watts.specs.Values.{no_watts}
use Rattle.reply_watts.proofs.IsoTrees.{value_written}
use Rattle.reply_watts.proofs.Kept.{current_kept, no_current}
use Rattle.reply_watts.proofs.iso.current.Goals as goal

pub returns-in-Some : goal.returns-in-Some
returns-in-Some c =
    current_kept c.args.plan.now c.args.spoken c.args.told value_written c.args.current c.with_current.result c.in-Some.current _ c.in-Some.is c.written.ensures.value
    (c.with_current.ensures c.args.spoken no_watts refl (c.new-none.ensures c.args.plan.now c.args.spoken c.args.told))

pub returns-in-None : goal.returns-in-None
returns-in-None c =
    no_current c.args.plan.now c.args.spoken c.args.told value_written c.args.current c.new-none.result c.in-None.is
    (c.new-none.ensures c.args.plan.now c.args.spoken c.args.told)
