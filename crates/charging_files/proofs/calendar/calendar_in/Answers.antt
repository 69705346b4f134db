use Rattle.std.proofs.Common.{sym}
use Rattle.plan_files.proofs.Texts.{told_weaker}
use Rattle.charging_files.proofs.calendar.calendar_in.Goals as goal

pub returns-in-Ok-calendar_from-clause-calendar : goal.returns-in-Ok-calendar_from-clause-calendar
returns-in-Ok-calendar_from-clause-calendar g c =
    told_weaker _ _ _ _ c.in-Ok-calendar_from.ensures.calendar (rw (sym c.deref.ensures.value) at c.in-Ok.ensures.bytes)
