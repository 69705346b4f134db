use Rattle.std.proofs.Common.{refl}
use Rattle.audit_watts.specs.Values.{no_watts}
use Rattle.reply_watts.proofs.IsoTrees.{value_written}
use Rattle.reply_watts.proofs.Kept.{power_kept, no_power}
use Rattle.reply_watts.proofs.iso.limit.Goals as goal

pub returns-in-Some : goal.returns-in-Some
returns-in-Some c plan =
    power_kept plan c.args.spoken c.args.told value_written c.args.power c.with_power.result c.in-Some.power _ c.in-Some.is c.written.ensures.value
    (c.with_power.ensures plan c.args.spoken no_watts refl (c.new-none.ensures plan c.args.spoken c.args.told))

pub returns-in-None : goal.returns-in-None
returns-in-None c plan =
    no_power plan c.args.spoken c.args.told value_written c.args.power c.new-none.result c.in-None.is (c.new-none.ensures plan c.args.spoken c.args.told)
