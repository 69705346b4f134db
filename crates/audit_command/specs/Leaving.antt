-- Own: what the command `audit` leaves.
use Rattle.std.specs.Prelude.{◌≡◌, ◌↔◌, ◌<◌, ℕ, List, reverse, Option, IsSomeAnd, MatchOption}
use Rattle.charge_world.specs.declared.entry.Entry.{Entry}
use Rattle.session_words.specs.declared.plan.SitePlan.{SitePlan}
use Rattle.site_plan.specs.Plans.{site_told}
use Rattle.told_pasts.specs.Faults.{IsFaultless}
use Rattle.told_pasts.specs.Spelling.{ToldCodecs}
use Rattle.trace_audit.specs.Auditing.{IsOfPost}
use Rattle.trace_audit.specs.declared.auditor.Fault.{Fault}
use Rattle.trace_files.specs.Recordings.{IsRecorded, IsRefusedAt}
use Rattle.command_status.specs.declared.status.Status.{Status}
use Rattle.command_status.specs.declared.status.Status.TheVariants as status
use Rattle.command_status.specs.FaultLines.{plan_line, input_line, source_line}
use Rattle.command_status.specs.Told.{OfText, SinkTold, TellsLine, Writes}
use Rattle.charging_files.specs.FileLines.{IsRefusedBy}
use Rattle.planned_traces.specs.Files.{FilesTold, AreFiles, AreTexts, ComesWith, IsTraceRefused}
use Rattle.audit_command.specs.Lines.{ok_line, no_line}
use Rattle.audit_command.specs.Audits.{Audited, IsFailed, lines_of}

-- the plan and the entries are those of the files
pub record WasAudited (c : ToldCodecs) (tells : Type 0) (s : Status) (files : FilesTold) (before after : SinkTold) : Type 0 where
  pub plan : SitePlan
  pub entries : List Entry
  pub files_are : AreFiles tells files plan entries
  pub audited : Audited c plan entries s before after

-- the first check that fails in the trace of the second file, and its first post
pub record IsFaultIn (c : ToldCodecs) (tells : Type 0) (files : FilesTold) (fault : Fault) : Type 0 where
  pub plan : SitePlan
  pub entries : List Entry
  pub files_are : AreFiles tells files plan entries
  pub failed : IsFailed c plan entries fault.line fault.check
  pub post : IsOfPost c plan (reverse entries) fault.line fault.check fault.post

abbrev pub HasFoundIn : ToldCodecs → Type 0 → FilesTold → Option Fault → Type 0
HasFoundIn c tells files fault = MatchOption fault (Unit {0}) (IsFaultIn c tells files)

-- the first fault of the first file's text is told by its key
pub record IsPlanTold (tells : Type 0) (files : FilesTold) (before after : SinkTold) : Type 0 where
  pub key : List ℕ
  pub refused : OfText tells files.plan (λ text. IsRefusedBy site_told text key)
  pub line : TellsLine (plan_line key) before after

-- the first file is a plan, and the line at which the second is refused is told
pub record IsInputTold (tells : Type 0) (files : FilesTold) (before after : SinkTold) : Type 0 where
  pub number : ℕ
  pub refused : IsTraceRefused tells files number
  pub line : TellsLine (input_line number) before after

abbrev pub LeavesBy : ToldCodecs → Type 0 → Status → FilesTold → SinkTold → SinkTold → Type 0
LeavesBy c tells status.Done files before after = WasAudited c tells status.Done files before after
LeavesBy c tells status.AuditNo files before after = WasAudited c tells status.AuditNo files before after
LeavesBy c tells status.SinkFault files before after = WasAudited c tells status.SinkFault files before after
LeavesBy c tells status.Plan files before after = IsPlanTold tells files before after
LeavesBy c tells status.Input files before after = IsInputTold tells files before after
LeavesBy c tells status.SourceFault files before after = TellsLine source_line before after
LeavesBy c tells status.NoMemory files before after = (after.taken ≡ before.taken) × (after.faults ≡ before.faults)
LeavesBy c tells _ files before after = ⊥

-- By the texts of the files, where the source tells them and both could be read: what is wrong with them is told, and else whether a check fails, where
-- the line could be written
pub record IsDecided (c : ToldCodecs) (s : Status) (files : FilesTold) (before after : SinkTold) : Type 0 where
  pub plan : (key : List ℕ) → IsSomeAnd files.plan (λ text. IsRefusedBy site_told text key) → ComesWith status.Plan (TellsLine (plan_line key) before after) s
  pub input : (plan : SitePlan) (number : ℕ) → AreTexts files plan (λ posts text. IsRefusedAt posts text number)
      → ComesWith status.Input (TellsLine (input_line number) before after) s
  pub ok : (plan : SitePlan) (entries : List Entry) → AreTexts files plan (λ posts text. IsRecorded posts text entries)
      → after.faults ≡ before.faults → IsFaultless c plan (reverse entries)
      → ComesWith status.Done (Writes (ok_line (lines_of entries)) before after) s
  pub no : (plan : SitePlan) (entries : List Entry) (line check : ℕ) → AreTexts files plan (λ posts text. IsRecorded posts text entries)
      → after.faults ≡ before.faults → IsFailed c plan entries line check
      → ComesWith status.AuditNo (Writes (no_line line check) before after) s

-- All is as the files say. A file could not be read exactly where the source's count of faults rose, and else the files decide
pub record AuditLeaves (c : ToldCodecs) (tells : Type 0) (s : Status) (files : FilesTold) (before after : SinkTold) : Type 0 where
  pub leaves : LeavesBy c tells s files before after
  pub unread : (s ≡ status.SourceFault) ↔ (files.n < files.m)
  pub decided : tells → files.m ≡ files.n → IsDecided c s files before after
