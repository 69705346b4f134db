-- Own: what is wrong with the files of a replay is always told, and where nothing is, the trace is replayed; but for want of memory, which
-- comes freely.
use Rattle.std.specs.Prelude.{◌≡◌, ◌⊎◌, ℕ, List, length, Option, Some, IsSomeAnd}
use Rattle.charge_world.specs.declared.entry.Entry.{Entry}
use Rattle.session_words.specs.declared.plan.SitePlan.{SitePlan}
use Rattle.plan_keys.specs.declared.fault.PlanFault.{PlanFault}
use Rattle.site_plan.specs.Plans.{IsSitePlanOf, site_told}
use Rattle.command_status.specs.declared.status.Status.{Status}
use Rattle.command_status.specs.declared.status.Status.TheVariants as status
use Rattle.command_status.specs.FaultLines.{plan_line, input_line}
use Rattle.command_status.specs.Told.{SinkTold, TellsLine}
use Rattle.trace_files.specs.Recordings.{IsRecorded, IsRefusedAt}
use Rattle.station_command.specs.Refused.{key_of}
use Rattle.planned_traces.specs.Files.{FilesTold, AreTexts, ComesWith}

-- the line of a plan's fault was told
abbrev pub TellsKey : PlanFault → SinkTold → SinkTold → Type 0
TellsKey fault before after = (key : List ℕ) × (key_of fault ≡ Some key) × TellsLine (plan_line key) before after

-- by the texts of the files, where the source tells them and both could be read
pub record IsDecided (s : Status) (files : FilesTold) (trace_before trace out_before out : SinkTold) : Type 0 where
  pub plan : (fault : PlanFault) → IsSomeAnd files.plan (λ text. site_told text ≡ Some fault) → ComesWith status.Plan (TellsKey fault out_before out) s
  pub input : (plan : SitePlan) (number : ℕ) → AreTexts files plan (λ posts text. IsRefusedAt posts text number)
      → ComesWith status.Input (TellsLine (input_line number) out_before out) s
  pub done : (plan : SitePlan) (recorded : List Entry) → AreTexts files plan (λ posts text. IsRecorded posts text recorded)
      → trace.faults ≡ trace_before.faults → out.faults ≡ out_before.faults → (s ≡ status.Done) ⊎ (s ≡ status.NoMemory)
