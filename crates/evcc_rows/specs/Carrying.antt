-- Own: the stage of a session by what it takes along.
use Rattle.car_rules.specs.declared.stage.CarPhase.{CarPhase}
use Rattle.car_rules.specs.declared.stage.CarPhase.TheVariants as phase
use Rattle.car_rules.specs.declared.stage.CarStage.{CarStage}
use Rattle.evcc_rows.specs.declared.carried.Carried.{Carried}
use Rattle.evcc_rows.specs.declared.carried.Charged.{Charged}
use Rattle.evcc_rows.specs.declared.row.Row.{Row}
use Rattle.evcc_rows.specs.declared.row.Row.TheVariants as row

abbrev pub carried_stage : CarPhase → Carried → CarStage
carried_stage phase carried =
    record { phase = phase; dialect = carried.dialect; session = carried.session; cycles = carried.cycles }

abbrev pub charged_stage : CarPhase → Charged → CarStage
charged_stage phase charged =
    record { phase = phase; dialect = charged.dialect; session = charged.session; cycles = charged.cycles }

-- the stage of a session whose car awaits the reply of a row
abbrev pub stage_of : Row → CarStage
stage_of (row.SettingUp awaited) = carried_stage phase.SettingUp awaited.carried
stage_of (row.Discovering awaited) = carried_stage phase.Discovering awaited.carried
stage_of (row.Selecting awaited) = carried_stage phase.Selecting awaited.carried
stage_of (row.Authorizing awaited) = carried_stage phase.Authorizing awaited.carried
stage_of (row.Asking awaited) = carried_stage phase.Asking awaited.carried
stage_of (row.CableChecking awaited) = carried_stage phase.CableChecking awaited.carried
stage_of (row.PreCharging awaited) = carried_stage phase.PreCharging awaited.carried
stage_of (row.Starting awaited) = carried_stage phase.Starting awaited.carried
stage_of (row.Charging awaited) = carried_stage phase.Charging awaited.carried
stage_of (row.Stopping awaited) = charged_stage phase.Stopping awaited.charged
stage_of (row.Renegotiating awaited) = carried_stage phase.Renegotiating awaited.carried
stage_of (row.Welding awaited) = charged_stage (phase.Welding awaited.left) awaited.charged
stage_of (row.Ending awaited) = charged_stage phase.Ending awaited.charged
