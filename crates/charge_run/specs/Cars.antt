-- Own: what the command `car` leaves.
use Rattle.std.specs.Prelude.{◌≡◌, ◌<◌, ℕ, List, Option}
use Rattle.session_words.specs.declared.plan.CarPlan.{CarPlan}
use Rattle.car_spec.specs.Codecs.{Codecs}
use Rattle.plan_files.specs.Plans.{IsCarPlanIn}
use Rattle.command_status.specs.declared.status.Status.{Status}
use Rattle.command_status.specs.declared.status.Status.TheVariants as status
use Rattle.command_status.specs.FaultLines.{Tells, source_line}
use Rattle.command_status.specs.Told.{FileTold, SinkTold}
use Rattle.replay_command.specs.Served.{WireTold, IsBegun}
use Rattle.car_command.specs.Driven.{Drives}
use Rattle.car_command.specs.Refused.{IsRefused}

-- Once the wire is started, all is as the plan in the file says. Where the file is no plan or can't be read, that is told.
pub record CarLeaves (c : Codecs) (s : Status) (file : FileTold) (before after : WireTold) (trace_before trace : Option (List ℕ)) (out_before out : SinkTold) : Type 0 where
  pub driven : IsBegun s → (plan : CarPlan) × IsCarPlanIn file.left file.text plan × Drives c plan s before after trace_before trace out_before out
  pub refused : s ≡ status.Plan → IsRefused file.left file.text out_before out
  pub source : s ≡ status.SourceFault → (file.n < file.m) × Tells out_before.taken out.taken out_before.faults out.faults source_line
