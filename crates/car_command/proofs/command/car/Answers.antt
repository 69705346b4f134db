use Rattle.std.proofs.Common.{◌≡◌, subst}
use Rattle.command_status.specs.declared.status.Status.{Status}
use Rattle.command_status.specs.declared.status.Status.TheVariants as status
use Rattle.station_command.specs.Served.{IsBegun}
use Rattle.station_command.proofs.Complete.{begun_or_not, complete}
use Rattle.car_command.proofs.command.car.Goals as goal

begun_apart : (s : Status) → IsBegun s → s ≡ status.NoMemory → ⊥
begun_apart s begun is = subst IsBegun is begun

pub returns-in-Ok-clause-driven : goal.returns-in-Ok-clause-driven
returns-in-Ok-clause-driven g c = λ begun.
    (c.in-Ok.plan, c.in-Ok.ensures.plan, c.drive_plan.ensures.driven (begun_apart _ begun))

pub returns-in-Ok-clause-complete : goal.returns-in-Ok-clause-complete
returns-in-Ok-clause-complete g c = complete c.drive_plan.result _ _ _ _ _ _ _ _ (begun_or_not c.drive_plan.result c.drive_plan.ensures.begun) c.drive_plan.ensures.sink_fault c.drive_plan.ensures.wire_fault
