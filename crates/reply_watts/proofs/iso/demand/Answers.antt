use Rattle.std.proofs.Common.{sym, subst}
use Rattle.told_pasts.specs.Spelling.{SpelledWatts}
use Rattle.audit_watts.specs.Values.{AreOf}
use Rattle.reply_watts.proofs.IsoTrees.{demand_read}
use Rattle.reply_watts.proofs.iso.demand.Goals as goal

pub returns : goal.returns
returns c plan =
    subst (λ (s : SpelledWatts). AreOf plan c.args.spoken c.args.told s c.limit.result) (sym (demand_read c.args.reply.now)) (c.limit.ensures plan)
