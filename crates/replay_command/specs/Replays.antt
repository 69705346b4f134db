-- Own: what the command `replay` leaves.
use Rattle.std.specs.Prelude.{◌≡◌, ◌↔◌, ◌<◌, ℕ, List, Some}
use Rattle.charge_world.specs.declared.entry.Entry.{Entry}
use Rattle.session_words.specs.declared.plan.SitePlan.{SitePlan}
use Rattle.post_spec.specs.Codecs.{Codecs}
use Rattle.plan_keys.specs.declared.fault.PlanFault.{PlanFault}
use Rattle.site_plan.specs.Plans.{site_told}
use Rattle.station_command.specs.Ended.{Ended}
use Rattle.station_command.specs.Ending.{AreFaults}
use Rattle.site_replays.specs.Replayed.{IsReplayed}
use Rattle.command_status.specs.declared.status.Status.{Status}
use Rattle.command_status.specs.declared.status.Status.TheVariants as status
use Rattle.command_status.specs.FaultLines.{plan_line, input_line, source_line}
use Rattle.command_status.specs.Told.{SinkTold, TellsLine, OfText}
use Rattle.station_command.specs.Refused.{key_of}
use Rattle.planned_traces.specs.Files.{FilesTold, AreFiles, IsTraceRefused}
use Rattle.replay_command.specs.Lines.{lines_of, Concludes}
use Rattle.replay_command.specs.Decided.{IsDecided}

-- A site of the plan ran off the recorded entries: it heard what is recorded, and its calls failed by the marks there. The text of its past
-- was written anew, and the line counts that text's lines and tells how the run ended. Where the text or the line couldn't be written, the
-- status is `SinkFault`.
pub record IsRun (c : Codecs) (plan : SitePlan) (recorded : List Entry) (s : Status) (trace_before trace out_before out : SinkTold) : Type 0 where
  pub how : Ended
  pub entries : ℕ
  pub replayed : IsReplayed c plan recorded trace_before.taken trace.taken how entries
  pub faults : AreFaults trace_before.faults trace.faults how
  pub line : Concludes how (lines_of replayed.past) s out_before out

-- or there was no memory for the site
abbrev pub Ran : Codecs → SitePlan → List Entry → Status → SinkTold → SinkTold → SinkTold → SinkTold → Type 0
Ran c plan recorded status.Done trace_before trace out_before out = IsRun c plan recorded status.Done trace_before trace out_before out
Ran c plan recorded status.SinkFault trace_before trace out_before out = IsRun c plan recorded status.SinkFault trace_before trace out_before out
Ran c plan recorded status.NoMemory trace_before trace out_before out = (trace ≡ trace_before) × (out ≡ out_before)
Ran c plan recorded _ trace_before trace out_before out = ⊥

-- the plan and the recorded entries are those of the files
pub record WasReplayed (c : Codecs) (tells : Type 0) (s : Status) (files : FilesTold) (trace_before trace out_before out : SinkTold) : Type 0 where
  pub plan : SitePlan
  pub recorded : List Entry
  pub files_are : AreFiles tells files plan recorded
  pub run : IsRun c plan recorded s trace_before trace out_before out

-- the first fault of the first file's text is told by its key
pub record IsPlanTold (tells : Type 0) (files : FilesTold) (before after : SinkTold) : Type 0 where
  pub fault : PlanFault
  pub key : List ℕ
  pub first : OfText tells files.plan (λ text. site_told text ≡ Some fault)
  pub key_is : key_of fault ≡ Some key
  pub line : TellsLine (plan_line key) before after

-- the first file is a plan, and the line at which the second is refused is told
pub record IsInputTold (tells : Type 0) (files : FilesTold) (before after : SinkTold) : Type 0 where
  pub number : ℕ
  pub refused : IsTraceRefused tells files number
  pub line : TellsLine (input_line number) before after

-- what is left by each status. At a fault of the files, and for want of memory, nothing was written to the trace
abbrev pub LeavesBy : Codecs → Type 0 → Status → FilesTold → SinkTold → SinkTold → SinkTold → SinkTold → Type 0
LeavesBy c tells status.Done files trace_before trace out_before out = WasReplayed c tells status.Done files trace_before trace out_before out
LeavesBy c tells status.SinkFault files trace_before trace out_before out = WasReplayed c tells status.SinkFault files trace_before trace out_before out
LeavesBy c tells status.Plan files trace_before trace out_before out = (trace ≡ trace_before) × IsPlanTold tells files out_before out
LeavesBy c tells status.Input files trace_before trace out_before out = (trace ≡ trace_before) × IsInputTold tells files out_before out
LeavesBy c tells status.SourceFault files trace_before trace out_before out = (trace ≡ trace_before) × TellsLine source_line out_before out
LeavesBy c tells status.NoMemory files trace_before trace out_before out = (trace ≡ trace_before) × (out ≡ out_before)
LeavesBy c tells _ files trace_before trace out_before out = ⊥

-- All is as the files say. A file could not be read exactly where the source's count of faults rose, and else the files decide
pub record ReplayLeaves (c : Codecs) (tells : Type 0) (s : Status) (files : FilesTold) (trace_before trace out_before out : SinkTold) : Type 0 where
  pub leaves : LeavesBy c tells s files trace_before trace out_before out
  pub unread : (s ≡ status.SourceFault) ↔ (files.n < files.m)
  pub decided : tells → files.m ≡ files.n → IsDecided s files trace_before trace out_before out
