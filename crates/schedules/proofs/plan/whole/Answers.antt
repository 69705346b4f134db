use Rattle.std.proofs.Common.{◌≡◌, ◌-◌, ◌*◌, ◌∷◌, sym, subst, arith}
use Rattle.schedules.specs.Plans.{IsPlan, IsBestOf}
use Rattle.schedules.proofs.Growing.{whole_plan, whole_best}
use Rattle.schedules.proofs.plan.whole.Goals as goal

pub returns-clause-plan : goal.returns-clause-plan
returns-clause-plan c =
    let e : c.from.result * c.from-2.result ≡ c.least_of-watts.result * (c.args.departure - c.args.first.start) = cc in
    subst (IsPlan c.args.departure (c.args.first ∷ c.args.rest.now) (c.from.result * c.from-2.result)) (sym c.followed.ensures)
    (whole_plan c.args.departure c.args.first c.args.rest.now c.least_of-watts.result (c.from.result * c.from-2.result) c.least_of-watts.ensures (omega arith) e)

pub returns-clause-best : goal.returns-clause-best
returns-clause-best c =
    subst (IsBestOf c.args.departure 1 (c.args.first ∷ c.args.rest.now)) (sym c.followed.ensures)
    (whole_best c.args.departure c.args.first c.args.rest.now c.least_of-watts.result c.least_of-watts.ensures)
