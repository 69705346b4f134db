use Rattle.std.proofs.Common.{sym, subst}
use Rattle.told_pasts.specs.Spelling.{SpelledWatts}
use Rattle.audit_watts.specs.Values.{AreOf}
use Rattle.reply_watts.proofs.IsoTrees.{status_read}
use Rattle.reply_watts.proofs.iso.status.Goals as goal

pub returns : goal.returns
returns c =
    subst (λ (s : SpelledWatts). AreOf c.args.plan.now c.args.spoken c.args.told s c.current.result) (sym (status_read c.args.reply.now)) c.current.ensures
