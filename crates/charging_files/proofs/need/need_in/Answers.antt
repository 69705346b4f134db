use Rattle.std.proofs.Common.{sym}
use Rattle.plan_files.proofs.Texts.{told_weaker}
use Rattle.charging_files.proofs.need.need_in.Goals as goal

pub returns-in-Ok-need_from-clause-need : goal.returns-in-Ok-need_from-clause-need
returns-in-Ok-need_from-clause-need g c =
    told_weaker _ _ _ _ c.in-Ok-need_from.ensures.need (rw (sym c.deref.ensures.value) at c.in-Ok.ensures.bytes)
