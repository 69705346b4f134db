use Rattle.std.proofs.Common.{◌≡◌, ℕ, ◌+◌, ◌-◌, List, [], ◌∷◌, take, drop, get_or, length, sym, subst, arith}
use Rattle.std.proofs.lemmas.List.{drop_all}
use Rattle.schedules.specs.declared.power.Step.{Step}
use Rattle.schedules.specs.Steps.{RiseWithin}
use Rattle.schedules.specs.declared.plan.Plan.{Plan}
use Rattle.schedules.specs.Plans.{IsPlan, IsBestOf, plan_at, steps_at}
use Rattle.schedules.proofs.Choosing.{rise_drop}
use Rattle.schedules.proofs.Growing.{each_pushed, plan_nothing, best_nothing, at_rest}
use Rattle.schedules.proofs.rounds.first_plans.Goals as goal

pub whole-requires-clause-rise : goal.whole-requires-clause-rise
whole-requires-clause-rise c =
    subst (RiseWithin 0 c.args.departure) (at_rest c.args.limits.now c.loop-at.at (omega arith)) (rise_drop c.args.departure c.args.limits.now c.loop-at.at 0 c.requires.rise)

pub loop-at-preserved : goal.loop-at-preserved
loop-at-preserved c =
    let here : drop c.loop-at.at c.args.limits.now
    ≡ get_or c.args.limits.now c.loop-at.at (record { start = 0; watts = 0 })
    ∷ take (length c.args.limits.now - (c.loop-at.at + 1)) (drop (c.loop-at.at + 1) c.args.limits.now) =
    at_rest c.args.limits.now c.loop-at.at (omega arith) in
    record {
      even = omega (arith, c.push.ensures.len, c.loop-at.invariant.even);
      each = λ n h. subst (λ (ps : List Plan). IsPlan c.args.departure (drop n c.args.limits.now) (plan_at ps n).energy (steps_at ps n)) (sym c.push.ensures.items)
          (each_pushed (λ m (q : Plan). IsPlan c.args.departure (drop m c.args.limits.now) q.energy q.steps.items) c.loop-at.plans.items c.loop-at.at c.whole.result
          c.loop-at.invariant.even c.loop-at.invariant.each
          (subst (λ (xs : List Step). IsPlan c.args.departure xs c.whole.result.energy c.whole.result.steps.items) (sym here) c.whole.ensures.plan) n h);
      best = λ n h. subst (λ (ps : List Plan). IsBestOf c.args.departure 1 (drop n c.args.limits.now) (steps_at ps n)) (sym c.push.ensures.items)
          (each_pushed (λ m (q : Plan). IsBestOf c.args.departure 1 (drop m c.args.limits.now) q.steps.items) c.loop-at.plans.items c.loop-at.at c.whole.result
          c.loop-at.invariant.even c.loop-at.invariant.best
          (subst (λ (xs : List Step). IsBestOf c.args.departure 1 xs c.whole.result.steps.items) (sym here) c.whole.ensures.best) n h);
    }

pub returns-clause-plans : goal.returns-clause-plans
returns-clause-plans c =
    let end : ℕ = c.loop-at.at in
    let none : drop end c.args.limits.now ≡ [] = drop_all end c.args.limits.now (omega arith) in
    let last : IsPlan c.args.departure (drop end c.args.limits.now) c.default.result.energy c.default.result.steps.items =
    subst (λ (e : ℕ). IsPlan c.args.departure (drop end c.args.limits.now) e c.default.result.steps.items) (sym c.default.ensures.0)
    (subst (λ (xs : List Step). IsPlan c.args.departure (drop end c.args.limits.now) 0 xs) (sym c.default.ensures.1)
    (plan_nothing c.args.departure (drop end c.args.limits.now) none)) in
    record {
      even = omega (arith, c.push-2.ensures.len, c.loop-at.invariant.even);
      each = λ n h. subst (λ (ps : List Plan). IsPlan c.args.departure (drop n c.args.limits.now) (plan_at ps n).energy (steps_at ps n)) (sym c.push-2.ensures.items)
          (each_pushed (λ m (q : Plan). IsPlan c.args.departure (drop m c.args.limits.now) q.energy q.steps.items) c.loop-at.plans.items end c.default.result
          c.loop-at.invariant.even c.loop-at.invariant.each last n (omega arith));
    }

pub returns-clause-best : goal.returns-clause-best
returns-clause-best c =
    let end : ℕ = c.loop-at.at in
    let none : drop end c.args.limits.now ≡ [] = drop_all end c.args.limits.now (omega arith) in
    let last : IsBestOf c.args.departure 1 (drop end c.args.limits.now) c.default.result.steps.items =
    subst (IsBestOf c.args.departure 1 (drop end c.args.limits.now)) (sym c.default.ensures.1) (best_nothing c.args.departure 1 (drop end c.args.limits.now) none) in
    λ n from h. subst (λ (ps : List Plan). IsBestOf c.args.departure 1 (drop n c.args.limits.now) (steps_at ps n)) (sym c.push-2.ensures.items)
    (each_pushed (λ m (q : Plan). IsBestOf c.args.departure 1 (drop m c.args.limits.now) q.steps.items) c.loop-at.plans.items end c.default.result
    c.loop-at.invariant.even c.loop-at.invariant.best last n (omega arith))
