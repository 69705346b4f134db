use Rattle.std.proofs.Common.{◌≡◌, ℕ, List, sym, subst, arith}
use Rattle.schedules.specs.declared.power.Step.{Step}
use Rattle.schedules.specs.Plans.{IsPlan, IsBestOf, plan_at, steps_at}
use Rattle.schedules.proofs.Growing.{room_left}
use Rattle.schedules.proofs.rounds.best_of.Goals as goal

pub lengthen-requires-clause-room : goal.lengthen-requires-clause-room
lengthen-requires-clause-room c =
    room_left c.args.departure c.loop-most._most 0 c.args.limits.now c.loop-most.plans c.loop-most.invariant.plans (omega arith) c.loop-most.invariant.best

pub loop-most-preserved : goal.loop-most-preserved
loop-most-preserved c = record {
  plans = c.lengthen.ensures.plans;
  best = c.lengthen.ensures.best c.loop-most._most c.loop-most.invariant.best;
}

pub first_of-requires : goal.first_of-requires
first_of-requires c = omega (arith, c.loop-most.invariant.plans.even)

pub returns-clause-plan : goal.returns-clause-plan
returns-clause-plan c =
    subst (λ (e : ℕ). IsPlan c.args.departure c.args.limits.now e c.first_of.result.steps.items) (sym c.first_of.ensures.energy)
    (subst (λ (xs : List Step). IsPlan c.args.departure c.args.limits.now (plan_at c.loop-most.plans 0).energy xs) (sym c.first_of.ensures.steps)
    (c.loop-most.invariant.plans.each 0 (omega arith)))

pub returns-clause-best : goal.returns-clause-best
returns-clause-best c =
    let all : c.loop-most._most ≡ 24 = omega arith in
    subst (IsBestOf c.args.departure 24 c.args.limits.now) (sym c.first_of.ensures.steps)
    (subst (λ (m : ℕ). IsBestOf c.args.departure m c.args.limits.now (steps_at c.loop-most.plans 0)) all (c.loop-most.invariant.best 0 (omega arith) (omega arith)))
