-- Own: what the command `car` leaves where its plan is refused.
use Rattle.std.specs.Prelude.{◌≡◌, ℕ, List, Option, Some}
use Rattle.plan_keys.specs.declared.fault.PlanFault.{PlanFault}
use Rattle.site_plan.specs.Plans.{car_told}
use Rattle.plan_files.specs.FileTexts.{Told}
use Rattle.command_status.specs.FaultLines.{Tells, plan_line}
use Rattle.command_status.specs.Told.{SinkTold}
use Rattle.station_command.specs.Refused.{key_of}

-- the first fault of the file's text is told by its key
pub record IsRefused (left text : Option (List ℕ)) (before after : SinkTold) : Type 0 where
  pub fault : PlanFault
  pub key : List ℕ
  pub first : Told left text (λ t. car_told t ≡ Some fault)
  pub key_is : key_of fault ≡ Some key
  pub line : Tells before.taken after.taken before.faults after.faults (plan_line key)
