use Rattle.std.proofs.Common.{◌≡◌, ap, ◌∙◌}
use Rattle.std.proofs.lemmas.List.{get_or_read}
use Rattle.schedules.specs.declared.plan.Plan.{Plan}
use Rattle.schedules.specs.Plans.{no_plan, plan_at}
use Rattle.schedules.proofs.rounds.first_of.Goals as goal

pub returns-clause-energy : goal.returns-clause-energy
returns-clause-energy c =
    let same : c.index-plans-0.result ≡ plan_at c.args.plans.now 0 = get_or_read c.args.plans.now 0 c.index-plans-0.result c.requires c.index-plans-0.is no_plan in
    c.copy_of.ensures.energy ∙ ap (λ (p : Plan). p.energy) same

pub returns-clause-steps : goal.returns-clause-steps
returns-clause-steps c =
    let same : c.index-plans-0.result ≡ plan_at c.args.plans.now 0 = get_or_read c.args.plans.now 0 c.index-plans-0.result c.requires c.index-plans-0.is no_plan in
    c.copy_of.ensures.steps ∙ ap (λ (p : Plan). p.steps.items) same
