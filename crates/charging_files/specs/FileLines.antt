-- Own: what a command leaves that reads a file and prints lines.
use Rattle.std.specs.Prelude.{◌≡◌, ◌↔◌, ℕ, ◌<◌, List, Option, Some, None, codes}
use Rattle.plan_keys.specs.declared.fault.PlanFault.{PlanFault}
use Rattle.plan_keys.specs.declared.fault.PlanFault.TheVariants.{NotToml, Missing, BadValue, OverLimit, Memory}
use Rattle.plan_files.specs.declared.plans.PlanFileFault.{PlanFileFault}
use Rattle.plan_files.specs.declared.plans.PlanFileFault.TheVariants.{Unread, Refused}
use Rattle.command_status.specs.declared.status.Status.{Status}
use Rattle.command_status.specs.declared.status.Status.TheVariants as status
use Rattle.command_status.specs.FaultLines.{plan_line, source_line}
use Rattle.command_status.specs.Told.{FileTold, SinkTold, TellsLine}

-- the key of a fault, or `toml`; none for want of memory
abbrev pub key_of : PlanFault → Option (List ℕ)
key_of NotToml = Some (codes "toml")
key_of (Missing key) = Some key.0
key_of (BadValue key) = Some key.0
key_of (OverLimit key) = Some key.0
key_of Memory = None

-- the line of a key was told, or nothing for want of memory
abbrev pub RefusesBy : Option (List ℕ) → Status → SinkTold → SinkTold → Type 0
RefusesBy (Some key) s before after = (s ≡ status.Plan) × TellsLine (plan_line key) before after
RefusesBy None s before after = (s ≡ status.NoMemory) × (after.taken ≡ before.taken) × (after.faults ≡ before.faults)

-- the fault of a file was told
abbrev pub Refuses : PlanFileFault → Status → SinkTold → SinkTold → Type 0
Refuses Unread s before after = (s ≡ status.SourceFault) × TellsLine source_line before after
Refuses (Refused fault) s before after = RefusesBy (key_of fault) s before after

-- a text, the first fault of which `first` tells, is refused at this key, or `toml`
pub record IsRefusedBy (first : List ℕ → Option PlanFault) (text key : List ℕ) : Type 0 where
  pub fault : PlanFault
  pub first_is : first text ≡ Some fault
  pub key_is : key_of fault ≡ Some key

-- it could not be read exactly where the source's count of faults rose
abbrev pub IsUnread : Status → FileTold → Type 0
IsUnread s file = (s ≡ status.SourceFault) ↔ (file.n < file.m)
