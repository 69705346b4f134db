use Rattle.std.proofs.Common.{◌≡◌, subst}
use Rattle.command_status.specs.declared.status.Status.{Status}
use Rattle.command_status.specs.declared.status.Status.TheVariants as status
use Rattle.station_command.specs.Served.{IsBegun}
use Rattle.station_command.proofs.Complete.{begun_or_not, complete}
use Rattle.station_command.proofs.command.station.Goals as goal

begun_apart : (s : Status) → IsBegun s → s ≡ status.NoMemory → ⊥
begun_apart s begun is = subst IsBegun is begun

pub returns-in-Ok-clause-served : goal.returns-in-Ok-clause-served
returns-in-Ok-clause-served g c = λ begun.
    (c.in-Ok.plan, c.in-Ok.ensures.plan, c.serve_plan.ensures.served (begun_apart _ begun))

pub returns-in-Ok-clause-complete : goal.returns-in-Ok-clause-complete
returns-in-Ok-clause-complete g c = complete c.serve_plan.result _ _ _ _ _ _ _ _ (begun_or_not c.serve_plan.result c.serve_plan.ensures.begun) c.serve_plan.ensures.sink_fault c.serve_plan.ensures.wire_fault
