use Rattle.std.proofs.Common.{subst}
use Rattle.schedules.specs.Plans.{IsPlan, IsBestOf}
use Rattle.schedules.proofs.Answering.{answered, measures}
use Rattle.schedules.proofs.answer.best_plan.Goals as goal

pub returns-clause-best : goal.returns-clause-best
returns-clause-best c =
    answered c.args.schedule.now c.args.cap c.args.departure c.limits_of.result.items c.limits_of.ensures c.plan_of.result.energy c.plan_of.result.steps.items
    (subst (λ xs. IsPlan c.args.departure xs c.plan_of.result.energy c.plan_of.result.steps.items) c.deref.ensures.0 c.plan_of.ensures.plan)
    (subst (λ xs. IsBestOf c.args.departure 24 xs c.plan_of.result.steps.items) c.deref.ensures.0 c.plan_of.ensures.best)

pub returns-clause-energy : goal.returns-clause-energy
returns-clause-energy c =
    measures c.args.schedule.now c.args.cap c.args.departure c.limits_of.result.items c.limits_of.ensures c.plan_of.result.energy c.plan_of.result.steps.items
    (subst (λ xs. IsPlan c.args.departure xs c.plan_of.result.energy c.plan_of.result.steps.items) c.deref.ensures.0 c.plan_of.ensures.plan)
    (subst (λ xs. IsBestOf c.args.departure 24 xs c.plan_of.result.steps.items) c.deref.ensures.0 c.plan_of.ensures.best)
