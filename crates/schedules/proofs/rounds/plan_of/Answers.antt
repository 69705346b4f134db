use Rattle.std.proofs.Common.{sym, subst}
use Rattle.schedules.specs.Plans.{ArePlans, AreBest}
use Rattle.schedules.proofs.rounds.plan_of.Goals as goal

pub best_of-requires-clause-plans : goal.best_of-requires-clause-plans
best_of-requires-clause-plans c = subst (ArePlans c.args.departure c.args.limits.now) (sym c.deref_mut.ensures.value) c.first_plans-plans.ensures.plans

pub best_of-requires-clause-best : goal.best_of-requires-clause-best
best_of-requires-clause-best c = subst (AreBest c.args.departure 1 0 c.args.limits.now) (sym c.deref_mut.ensures.value) c.first_plans-plans.ensures.best
