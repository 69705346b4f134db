use Rattle.std.proofs.Common.{sym}
use Rattle.plan_files.proofs.Texts.{told_weaker}
use Rattle.plan_files.proofs.cars.car_plan_in.Goals as goal

pub returns-in-Ok-plan_of-clause-plan : goal.returns-in-Ok-plan_of-clause-plan
returns-in-Ok-plan_of-clause-plan g c = told_weaker _ _ _ _ c.in-Ok-plan_of.ensures.plan (rw (sym c.deref.ensures.value) at c.in-Ok.ensures.bytes)
