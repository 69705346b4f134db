-- Own: what the command `car` leaves on the wire, on the trace and on the output, once its plan was read.
use Rattle.std.specs.Prelude.{◌≡◌, ◌⊎◌, ℕ, List, [], Option, Some}
use Rattle.session_words.specs.declared.plan.CarPlan.{CarPlan}
use Rattle.endpoint.specs.Telling.{Carries, CarriesText}
use Rattle.car_spec.specs.Codecs.{Codecs}
use Rattle.car_spec.specs.Report.{Report}
use Rattle.car_core.specs.Ended.{Ended}
use Rattle.car_core.specs.Ending.{EndedAs, TracedAs}
use Rattle.car_core.specs.Lawful.{IsDrivenLawfully}
use Rattle.command_status.specs.declared.status.Status.{Status}
use Rattle.command_status.specs.Told.{SinkTold}
use Rattle.station_command.specs.Served.{WireTold, IsUnstarted}
use Rattle.car_command.specs.Lines.{Concludes}
use Rattle.car_command.specs.Ports.{ports_of}

-- The car was driven. Where the wire tells its past, and was lent with an empty one, that is a run of the plan, which ended so; each `until` is
-- that of the past before it, the line reports the run's steps, and by these very steps it is lawful; the trace is its text, where it was empty.
pub record WasDriven (c : Codecs) (plan : CarPlan) (s : Status) (before after : WireTold) (trace_before trace : Option (List ℕ)) (out_before out : SinkTold) : Type 0 where
  pub how : Ended
  pub told : Report
  pub ended : Carries before.past after.past (λ past. past ≡ []) (EndedAs plan.turns how)
  pub driven : Carries before.past after.past (λ past. past ≡ []) (IsDrivenLawfully c plan how before.untils after.untils told)
  pub traced : CarriesText before.past after.past trace_before trace (λ past text. (past ≡ []) × (text ≡ [])) (TracedAs how)
  pub line : Concludes how told s out_before out

-- the wire was started with the ports of the plan, and the car driven if it did
pub record Drives (c : Codecs) (plan : CarPlan) (s : Status) (before after : WireTold) (trace_before trace : Option (List ℕ)) (out_before out : SinkTold) : Type 0 where
  pub ports : after.started ≡ Some (ports_of plan)
  pub driven : IsUnstarted s before after trace_before trace out_before out ⊎ WasDriven c plan s before after trace_before trace out_before out
