use Rattle.std.proofs.Common.{◌+◌, drop, length, sym, subst, inl, inr, arith}
use Rattle.std.proofs.lemmas.Bool.{cases_lt}
use Rattle.std.proofs.lemmas.List.{drop_all}
use Rattle.schedules.specs.declared.plan.Plan.{Plan}
use Rattle.schedules.specs.Plans.{IsBestOf, steps_at}
use Rattle.schedules.proofs.Growing.{best_last, set_plans, set_best, set_same}
use Rattle.schedules.proofs.rounds.lengthen.Goals as goal

pub loop-at-preserved : goal.loop-at-preserved
loop-at-preserved c = record {
  plans = set_plans c.args.departure c.args.limits.now c.loop-at.plans c.loop-at.at c.longer.result c.loop-at.invariant.plans (omega arith) c.longer.ensures.plan;
  done = λ most bests.
      set_best c.args.departure c.args.limits.now c.loop-at.plans c.loop-at.at c.longer.result (most + 1) c.loop-at.invariant.plans (omega arith)
      (c.loop-at.invariant.done most bests)
      (c.longer.ensures.best most (λ n from few. subst (λ (p : Plan). IsBestOf c.args.departure most (drop n c.args.limits.now) p.steps.items)
      (sym (c.loop-at.invariant.same n (omega arith))) (bests n (omega arith) few)));
  same = set_same c.loop-at.plans c.args.plans.now c.loop-at.at c.longer.result c.loop-at.invariant.same;
}

pub returns-clause-best : goal.returns-clause-best
returns-clause-best c = λ most bests n from few.
    elim (cases_lt n (length c.args.limits.now)) [
      | inl lt ↦ c.loop-at.invariant.done most bests n (omega arith) few
      | inr ge ↦ best_last c.args.departure most (drop n c.args.limits.now) (steps_at c.loop-at.plans n) (drop_all n c.args.limits.now ge)
          (subst (λ (p : Plan). IsBestOf c.args.departure most (drop n c.args.limits.now) p.steps.items) (sym (c.loop-at.invariant.same n (omega arith))) (bests n from few))
    ]
