use Rattle.std.proofs.Common.{◌≡◌, ℕ, ◌+◌, ◌-◌, ◌*◌, ◌^◌, ◌<◌, ◌≤◌, List, ◌∷◌, take, length, get_or, min, refl, sym, ap, ◌∙◌, subst, arith}
use Rattle.std.proofs.lemmas.Bool.{both_ways}
use Rattle.std.proofs.lemmas.List.{get_or_read, get_or_default}
use Rattle.schedules.specs.declared.power.Step.{Step}
use Rattle.schedules.specs.Steps.{next}
use Rattle.schedules.specs.declared.plan.Plan.{Plan}
use Rattle.schedules.specs.declared.plan.Choice.{Choice}
use Rattle.schedules.specs.Plans.{least, IsPlan, IsBestOf, no_plan, plan_at, steps_at}
use Rattle.schedules.proofs.Choosing.{IsFirst}
use Rattle.schedules.proofs.Moving.{step_of}
use Rattle.schedules.proofs.Growing.{Chosen, amount, least_more, option_after, option_within, option_plan, option_best, chosen_first, chosen_new, chosen_kept}
use Rattle.schedules.proofs.rounds.extended.Goals as goal
use Rattle.schedules.proofs.rounds.extended.Goals.{then-is_better, else-is_better}

pub new-other-requires-clause-order : goal.new-other-requires-clause-order
new-other-requires-clause-order c =
    let n : ℕ = c.loop-at.at + 1 in
    let same : c.index-behind-at.result ≡ plan_at c.args.behind.now n =
    get_or_read c.args.behind.now n c.index-behind-at.result (omega (arith, c.requires.plans.even)) c.index-behind-at.is no_plan in
    subst (λ (p : Plan). c.args.first.start ≤ next c.args.departure p.steps.items) (sym same)
    (omega (arith, option_after c.args.departure c.args.first c.args.rest.now c.args.behind.now c.requires.rise c.requires.plans n (omega arith)))

pub new-other-requires-clause-end : goal.new-other-requires-clause-end
new-other-requires-clause-end c =
    let n : ℕ = c.loop-at.at + 1 in
    let same : c.index-behind-at.result ≡ plan_at c.args.behind.now n =
    get_or_read c.args.behind.now n c.index-behind-at.result (omega (arith, c.requires.plans.even)) c.index-behind-at.is no_plan in
    subst (λ (p : Plan). next c.args.departure p.steps.items ≤ c.args.departure) (sym same)
    (option_within c.args.departure c.args.first c.args.rest.now c.args.behind.now c.requires.rise c.requires.plans n (omega arith))

pub new-other-requires-clause-fits : goal.new-other-requires-clause-fits
new-other-requires-clause-fits c =
    let n : ℕ = c.loop-at.at + 1 in
    let same : c.index-behind-at.result ≡ plan_at c.args.behind.now n =
    get_or_read c.args.behind.now n c.index-behind-at.result (omega (arith, c.requires.plans.even)) c.index-behind-at.is no_plan in
    subst (λ (p : Plan). p.energy ≤ 2 ^ 32 * (c.args.departure - next c.args.departure p.steps.items)) (sym same) (c.requires.plans.each n (omega arith)).fits

pub new-best-requires-clause-order : goal.new-best-requires-clause-order
new-best-requires-clause-order c =
    let same : c.index-behind-0.result ≡ plan_at c.args.behind.now 0 =
    get_or_read c.args.behind.now 0 c.index-behind-0.result (omega (arith, c.requires.plans.even)) c.index-behind-0.is no_plan in
    subst (λ (p : Plan). c.args.first.start ≤ next c.args.departure p.steps.items) (sym same)
    (omega (arith, option_after c.args.departure c.args.first c.args.rest.now c.args.behind.now c.requires.rise c.requires.plans 0 (omega arith)))

pub new-best-requires-clause-end : goal.new-best-requires-clause-end
new-best-requires-clause-end c =
    let same : c.index-behind-0.result ≡ plan_at c.args.behind.now 0 =
    get_or_read c.args.behind.now 0 c.index-behind-0.result (omega (arith, c.requires.plans.even)) c.index-behind-0.is no_plan in
    subst (λ (p : Plan). next c.args.departure p.steps.items ≤ c.args.departure) (sym same)
    (option_within c.args.departure c.args.first c.args.rest.now c.args.behind.now c.requires.rise c.requires.plans 0 (omega arith))

pub new-best-requires-clause-fits : goal.new-best-requires-clause-fits
new-best-requires-clause-fits c =
    let same : c.index-behind-0.result ≡ plan_at c.args.behind.now 0 =
    get_or_read c.args.behind.now 0 c.index-behind-0.result (omega (arith, c.requires.plans.even)) c.index-behind-0.is no_plan in
    subst (λ (p : Plan). p.energy ≤ 2 ^ 32 * (c.args.departure - next c.args.departure p.steps.items)) (sym same) (c.requires.plans.each 0 (omega arith)).fits

pub loop-at-init : goal.loop-at-init
loop-at-init c =
    let start : ℕ = c.args.first.start in
    let departure : ℕ = c.args.departure in
    let at : Plan = c.index-behind-0.result in
    let same : c.index-behind-0.result ≡ plan_at c.args.behind.now 0 =
    get_or_read c.args.behind.now 0 c.index-behind-0.result (omega (arith, c.requires.plans.even)) c.index-behind-0.is no_plan in
    let watts : ℕ = c.new-best.result.watts in
    let sum : c.new-best.result.energy ≡ watts * (next departure (steps_at c.args.behind.now 0) - start) + (plan_at c.args.behind.now 0).energy =
    c.new-best.ensures.energy ∙ ap (λ (v : ℕ). v * (next departure at.steps.items - start) + at.energy) (sym c.new-best.ensures.watts)
    ∙ ap (λ (p : Plan). watts * (next departure p.steps.items - start) + p.energy) same in
    record {
      low = refl;
      fits = c.new-best.ensures.fits;
      chosen = subst (λ n. Chosen departure c.args.first c.args.rest.now c.args.behind.now 1 watts c.new-best.result.energy c.new-best.result.steps n) (sym c.new-best.ensures.place)
          (chosen_first departure c.args.first c.args.rest.now c.args.behind.now watts c.new-best.result.energy c.new-best.result.steps c.new-best.ensures.watts sum
          (c.new-best.ensures.steps ∙ ap (λ (p : Plan). length p.steps.items) same));
    }

pub loop-at-preserved : goal.loop-at-preserved
loop-at-preserved c =
    let n : ℕ = c.loop-at.at + 1 in
    let start : ℕ = c.args.first.start in
    let departure : ℕ = c.args.departure in
    let at : Plan = c.index-behind-at.result in
    let item : Step = get_or c.args.rest.now c.loop-at.at (record { start = 0; watts = 0 }) in
    let same : c.index-behind-at.result ≡ plan_at c.args.behind.now n =
    get_or_read c.args.behind.now n c.index-behind-at.result (omega (arith, c.requires.plans.even)) c.index-behind-at.is no_plan in
    let low : c.min-low.result ≡ least c.args.first.watts (take n c.args.rest.now) =
    c.min-low.ensures ∙ ap (λ (v : ℕ). min v item.watts) c.loop-at.invariant.low
    ∙ sym (least_more c.args.first.watts c.args.rest.now c.loop-at.at (record { start = 0; watts = 0 }) (omega arith)) in
    let watts : ℕ = c.new-other.result.watts in
    let sum : c.new-other.result.energy ≡ watts * (next departure (steps_at c.args.behind.now n) - start) + (plan_at c.args.behind.now n).energy =
    c.new-other.ensures.energy ∙ ap (λ (v : ℕ). v * (next departure at.steps.items - start) + at.energy) (sym c.new-other.ensures.watts)
    ∙ ap (λ (p : Plan). watts * (next departure p.steps.items - start) + p.energy) same in
    let steps : c.new-other.result.steps ≡ length (steps_at c.args.behind.now n) = c.new-other.ensures.steps ∙ ap (λ (p : Plan). length p.steps.items) same in
    elim c.if-is_better.branch [
      | then-is_better w ↦ record {
        low = low;
        fits = subst (λ (b : Choice). b.watts < 2 ^ 32) (sym w.best-is) c.new-other.ensures.fits;
        chosen = subst (λ (b : Choice). Chosen departure c.args.first c.args.rest.now c.args.behind.now (n + 1) b.watts b.energy b.steps b.place) (sym w.best-is)
            (subst (λ m. Chosen departure c.args.first c.args.rest.now c.args.behind.now (n + 1) watts c.new-other.result.energy c.new-other.result.steps m) (sym c.new-other.ensures.place)
            (chosen_new departure c.args.first c.args.rest.now c.args.behind.now n c.loop-at.best.watts c.loop-at.best.energy c.loop-at.best.steps c.loop-at.best.place
            watts c.new-other.result.energy c.new-other.result.steps c.loop-at.invariant.chosen (c.new-other.ensures.watts ∙ low) sum steps
            (c.is_better.ensures.0 w.if-is_better.true)));
      }
      | else-is_better w ↦ record {
        low = low;
        fits = subst (λ (b : Choice). b.watts < 2 ^ 32) (sym w.best-is) c.loop-at.invariant.fits;
        chosen = subst (λ (b : Choice). Chosen departure c.args.first c.args.rest.now c.args.behind.now (n + 1) b.watts b.energy b.steps b.place) (sym w.best-is)
            (chosen_kept departure c.args.first c.args.rest.now c.args.behind.now n c.loop-at.best.watts c.loop-at.best.energy c.loop-at.best.steps c.loop-at.best.place
            watts c.new-other.result.energy c.new-other.result.steps c.loop-at.invariant.chosen (c.new-other.ensures.watts ∙ low) sum steps
            (λ more. both_ways c.is_better.result w.if-is_better.false (c.is_better.ensures.1 more)));
      }
    ]

pub returns-clause-plan : goal.returns-clause-plan
returns-clause-plan c =
    let place : ℕ = c.loop-at.best.place in
    let ch : Chosen c.args.departure c.args.first c.args.rest.now c.args.behind.now (c.loop-at.at + 1) c.loop-at.best.watts c.loop-at.best.energy c.loop-at.best.steps place =
    c.loop-at.invariant.chosen in
    let inside : place ≤ length c.args.rest.now = omega (arith, ch.is_first.here) in
    let steps : c.deref.result.now ≡ steps_at c.args.behind.now place =
    c.deref.ensures.0 ∙ ap (λ (p : Plan). p.steps.items) (get_or_default c.args.behind.now place c.index-behind-best.result no_plan (omega (arith, c.requires.plans.even))) in
    let items : c.followed.result.items ≡ step_of c.args.first.start c.loop-at.best.watts ∷ steps_at c.args.behind.now place =
    c.followed.ensures ∙ ap (λ (xs : List Step). step_of c.args.first.start c.loop-at.best.watts ∷ xs) steps in
    subst (IsPlan c.args.departure (c.args.first ∷ c.args.rest.now) c.loop-at.best.energy) (sym items)
    (option_plan c.args.departure c.args.first c.args.rest.now c.args.behind.now c.requires.rise c.requires.plans place c.loop-at.best.watts c.loop-at.best.energy inside
    ch.is_watts c.loop-at.invariant.fits ch.is_sum)

pub returns-clause-best : goal.returns-clause-best
returns-clause-best c = λ most bests.
    let place : ℕ = c.loop-at.best.place in
    let ch : Chosen c.args.departure c.args.first c.args.rest.now c.args.behind.now (c.loop-at.at + 1) c.loop-at.best.watts c.loop-at.best.energy c.loop-at.best.steps place =
    c.loop-at.invariant.chosen in
    let inside : place ≤ length c.args.rest.now = omega (arith, ch.is_first.here) in
    let all : c.loop-at.at + 1 ≡ length c.args.rest.now + 1 = omega arith in
    let steps : c.deref.result.now ≡ steps_at c.args.behind.now place =
    c.deref.ensures.0 ∙ ap (λ (p : Plan). p.steps.items) (get_or_default c.args.behind.now place c.index-behind-best.result no_plan (omega (arith, c.requires.plans.even))) in
    let items : c.followed.result.items ≡ step_of c.args.first.start c.loop-at.best.watts ∷ steps_at c.args.behind.now place =
    c.followed.ensures ∙ ap (λ (xs : List Step). step_of c.args.first.start c.loop-at.best.watts ∷ xs) steps in
    subst (IsBestOf c.args.departure (most + 1) (c.args.first ∷ c.args.rest.now)) (sym items)
    (option_best c.args.departure c.args.first c.args.rest.now c.args.behind.now c.requires.rise c.requires.plans place c.loop-at.best.watts most ch.is_watts
    (subst (λ m. IsFirst (amount c.args.departure c.args.first c.args.rest.now c.args.behind.now) (λ k. length (steps_at c.args.behind.now k)) m place) all ch.is_first) bests)
