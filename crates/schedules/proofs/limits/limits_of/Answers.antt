use Rattle.std.proofs.Common.{◌≡◌, List, [], ◌∷◌, ◌++◌, length, ap, ◌∙◌, sym, subst, arith}
use Rattle.schedules.specs.declared.power.Step.{Step}
use Rattle.schedules.specs.Limits.{AreLimits, kept}
use Rattle.schedules.proofs.Kept.{limits_whole, limits_ended}
use Rattle.schedules.proofs.Moving.{step_of}
use Rattle.schedules.proofs.limits.limits_of.Goals as goal

pub returns-then-schedule-departure : goal.returns-then-schedule-departure
returns-then-schedule-departure c =
    let entries : List Step = c.args.schedule.now.entries.items in
    let e : c.min.result ≡ c.args.schedule.now.end = omega arith in
    let front : c.capped-limits.result.items ≡ kept c.args.cap c.args.schedule.now.end entries =
    c.capped-limits.ensures.kept ∙ ap (λ n. kept c.args.cap n c.as_slice.result.now) e ∙ ap (kept c.args.cap c.args.schedule.now.end) c.as_slice.ensures.value in
    let same : kept c.args.cap c.args.schedule.now.end entries ++ step_of c.args.schedule.now.end 0 ∷ [] ≡ c.push.new.self.items =
    ap (λ (xs : List Step). xs ++ step_of c.args.schedule.now.end 0 ∷ []) (sym front) ∙ sym c.push.ensures.items in
    subst (AreLimits c.args.schedule.now c.args.cap c.args.departure) same
    (limits_ended c.args.schedule.now c.args.cap c.args.departure c.requires.schedule c.requires.departs c.if-schedule-departure.true
    (omega (arith, c.capped-limits.ensures.few, ap length front)))

pub returns-else-schedule-departure : goal.returns-else-schedule-departure
returns-else-schedule-departure c =
    let entries : List Step = c.args.schedule.now.entries.items in
    let e : c.min.result ≡ c.args.departure = omega arith in
    let all : c.capped-limits.result.items ≡ kept c.args.cap c.args.departure entries =
    c.capped-limits.ensures.kept ∙ ap (λ n. kept c.args.cap n c.as_slice.result.now) e ∙ ap (kept c.args.cap c.args.departure) c.as_slice.ensures.value in
    subst (AreLimits c.args.schedule.now c.args.cap c.args.departure) (sym all)
    (limits_whole c.args.schedule.now c.args.cap c.args.departure c.requires.schedule c.requires.departs c.if-schedule-departure.false
    (omega (arith, c.capped-limits.ensures.few, ap length all)))
