-- Own: what the command `talk` leaves.
use Rattle.std.specs.Prelude.{◌≡◌, ◌↔◌, ◌<◌, ℕ, List}
use Rattle.session_words.specs.declared.plan.CarPlan.{CarPlan}
use Rattle.session_words.specs.declared.plan.SitePlan.{SitePlan}
use Rattle.post_spec.specs.Codecs.{Codecs}
use Rattle.car_spec.specs.Codecs as car
use Rattle.command_status.specs.declared.status.Status.{Status}
use Rattle.command_status.specs.declared.status.Status.TheVariants as status
use Rattle.command_status.specs.FaultLines.{plan_line, source_line}
use Rattle.command_status.specs.Told.{SinkTold, TellsLine, Writes}
use Rattle.planned_traces.specs.Files.{ComesWith}
use Rattle.pair_command.specs.Files.{PlansTold, ArePlans, ArePlanTexts, IsRefusedAt}
use Rattle.pair_command.specs.Talking.{IsTalkLine, IsToldLine}
use Rattle.pair_command.specs.Printing.{Printed}

-- the plans are those of the files
pub record HasTalked (c : Codecs) (cc : car.Codecs) (tells : Type 0) (seed : ℕ) (s : Status) (files : PlansTold) (before after : SinkTold) : Type 0 where
  pub site : SitePlan
  pub plan : CarPlan
  pub plans_are : ArePlans tells files site plan
  pub talked : Printed (IsToldLine c cc site plan seed) s before after

-- the key at which a plan is refused is told
pub record IsPlanTold (tells : Type 0) (files : PlansTold) (before after : SinkTold) : Type 0 where
  pub key : List ℕ
  pub refused : tells → IsRefusedAt files key
  pub line : TellsLine (plan_line key) before after

abbrev pub LeavesBy : Codecs → car.Codecs → Type 0 → ℕ → Status → PlansTold → SinkTold → SinkTold → Type 0
LeavesBy c cc tells seed status.Done files before after = HasTalked c cc tells seed status.Done files before after
LeavesBy c cc tells seed status.SinkFault files before after = HasTalked c cc tells seed status.SinkFault files before after
LeavesBy c cc tells seed status.Plan files before after = IsPlanTold tells files before after
LeavesBy c cc tells seed status.SourceFault files before after = TellsLine source_line before after
LeavesBy c cc tells seed status.NoMemory files before after = (after.taken ≡ before.taken) × (after.faults ≡ before.faults)
LeavesBy c cc tells seed _ files before after = ⊥

-- By the texts of the files, where the source tells them and both could be read: the key of the one that is refused is told, and else the line of the
-- one run of the pipe is printed, where it could be written
pub record IsDecided (c : Codecs) (cc : car.Codecs) (seed : ℕ) (s : Status) (files : PlansTold) (before after : SinkTold) : Type 0 where
  pub plan : (key : List ℕ) → IsRefusedAt files key → ComesWith status.Plan (TellsLine (plan_line key) before after) s
  pub talked : (site : SitePlan) (plan : CarPlan) (line : List ℕ) → ArePlanTexts files site plan → after.faults ≡ before.faults
      → IsTalkLine c cc site plan seed line → ComesWith status.Done (Writes line before after) s

-- All is as the files say. A file could not be read exactly where the source's count of faults rose, and else the files decide
pub record TalkLeaves (c : Codecs) (cc : car.Codecs) (tells : Type 0) (seed : ℕ) (s : Status) (files : PlansTold) (before after : SinkTold) : Type 0 where
  pub leaves : LeavesBy c cc tells seed s files before after
  pub unread : (s ≡ status.SourceFault) ↔ (files.n < files.m)
  pub decided : tells → files.m ≡ files.n → IsDecided c cc seed s files before after
