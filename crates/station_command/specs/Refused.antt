-- Own: what the command `station` leaves where its plan is refused.
use Rattle.std.specs.Prelude.{◌≡◌, ℕ, List, Option, Some, None, codes}
use Rattle.plan_keys.specs.declared.fault.PlanFault.{PlanFault}
use Rattle.plan_keys.specs.declared.fault.PlanFault.TheVariants.{NotToml, Missing, BadValue, OverLimit, Memory}
use Rattle.site_plan.specs.Plans.{site_told}
use Rattle.plan_files.specs.FileTexts.{Told}
use Rattle.command_status.specs.FaultLines.{Tells, plan_line}
use Rattle.command_status.specs.Told.{SinkTold}

-- the key of a fault, or `toml`; none for want of memory
abbrev pub key_of : PlanFault → Option (List ℕ)
key_of NotToml = Some (codes "toml")
key_of (Missing key) = Some key.0
key_of (BadValue key) = Some key.0
key_of (OverLimit key) = Some key.0
key_of Memory = None

-- the first fault of the file's text is told by its key
pub record IsRefused (left text : Option (List ℕ)) (before after : SinkTold) : Type 0 where
  pub fault : PlanFault
  pub key : List ℕ
  pub first : Told left text (λ t. site_told t ≡ Some fault)
  pub key_is : key_of fault ≡ Some key
  pub line : Tells before.taken after.taken before.faults after.faults (plan_line key)
