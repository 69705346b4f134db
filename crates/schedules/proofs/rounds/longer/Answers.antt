use Rattle.std.proofs.Common.{◌+◌, List, drop, sym, subst}
use Rattle.std.proofs.lemmas.List.{take_rest}
use Rattle.schedules.specs.declared.power.Step.{Step}
use Rattle.schedules.specs.Steps.{RiseWithin}
use Rattle.schedules.specs.Plans.{IsPlan, IsBestOf, ArePlans, AreBest, HaveRoom}
use Rattle.schedules.proofs.Choosing.{rise_drop}
use Rattle.schedules.proofs.Growing.{plans_behind, best_behind, room_behind, at_rest}
use Rattle.schedules.proofs.rounds.longer.Goals as goal

pub extended-requires-clause-rise : goal.extended-requires-clause-rise
extended-requires-clause-rise c =
    subst (RiseWithin 0 c.args.departure) (at_rest c.args.limits.now c.args.at c.requires.place)
    (rise_drop c.args.departure c.args.limits.now c.args.at 0 c.requires.rise)

pub extended-requires-clause-plans : goal.extended-requires-clause-plans
extended-requires-clause-plans c =
    subst (λ (xs : List Step). ArePlans c.args.departure xs c.split_at.result.1.now) (sym (take_rest c.args.limits.now (c.args.at + 1)))
    (subst (ArePlans c.args.departure (drop (c.args.at + 1) c.args.limits.now)) (sym c.split_at.ensures.back)
    (plans_behind c.args.departure c.args.at c.args.limits.now c.args.plans.now c.requires.place c.requires.plans))

pub extended-requires-clause-room : goal.extended-requires-clause-room
extended-requires-clause-room c =
    subst (HaveRoom 0) (sym c.split_at.ensures.back) (room_behind c.args.departure c.args.at c.args.plans.now c.requires.room)

pub returns-clause-plan : goal.returns-clause-plan
returns-clause-plan c =
    subst (λ (xs : List Step). IsPlan c.args.departure xs c.extended.result.energy c.extended.result.steps.items)
    (sym (at_rest c.args.limits.now c.args.at c.requires.place)) c.extended.ensures.plan

pub returns-clause-best : goal.returns-clause-best
returns-clause-best c = λ most bests.
    subst (λ (xs : List Step). IsBestOf c.args.departure (most + 1) xs c.extended.result.steps.items)
    (sym (at_rest c.args.limits.now c.args.at c.requires.place))
    (c.extended.ensures.best most
    (subst (λ (xs : List Step). AreBest c.args.departure most 0 xs c.split_at.result.1.now) (sym (take_rest c.args.limits.now (c.args.at + 1)))
    (subst (AreBest c.args.departure most 0 (drop (c.args.at + 1) c.args.limits.now)) (sym c.split_at.ensures.back)
    (best_behind c.args.departure c.args.at most c.args.limits.now c.args.plans.now c.requires.place bests))))
