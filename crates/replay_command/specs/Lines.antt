-- Own: the line that a replay prints, `lines N ended over` and a line feed, with `lost` or `turns` in place of `over`; and the lines of
-- its faults.
use Rattle.std.specs.Prelude.{◌≡◌, ◌⊎◌, ℕ, ◌+◌, min, List, ◌++◌, length, Option, Some, None, codes, decimal}
use Rattle.charge_world.specs.declared.entry.Entry.{Entry}
use Rattle.charge_world.specs.Outside.{Appends}
use Rattle.station_command.specs.Ended.{Ended}
use Rattle.station_command.specs.Ended.TheVariants as ended
use Rattle.command_status.specs.declared.status.Status.{Status}
use Rattle.command_status.specs.declared.status.Status.TheVariants as status
use Rattle.command_status.specs.FaultLines.{Tells, plan_line, input_line, source_line}
use Rattle.command_status.specs.Told.{SinkTold, TellsLine}
use Rattle.station_command.specs.Lines.{IsCutOff}
use Rattle.station_command.specs.Refused.{key_of}
use Rattle.planned_traces.specs.declared.recording.FilesFault.{FilesFault}
use Rattle.planned_traces.specs.declared.recording.FilesFault.TheVariants.{Unread, Plan, Line, Memory}

-- how many lines the trace of a past has: the first, and one for each entry. The count stands still at the end of 64 bits
abbrev pub lines_of : List Entry → ℕ
lines_of past = min (length past + 1) 18446744073709551615

unfoldable pub replay_line : ℕ → List ℕ → List ℕ
replay_line lines how = codes "lines " ++ decimal lines ++ codes " ended " ++ how ++ codes "\n"

-- the line was printed, or it couldn't be, and then a front of it was
abbrev pub Prints : List ℕ → Status → SinkTold → SinkTold → Type 0
Prints line s before after =
    ((s ≡ status.Done) × Appends before.taken after.taken line × (after.faults ≡ before.faults)) ⊎ IsCutOff s before.taken after.taken before.faults after.faults line

-- the status of a way in which a replay ended, and what is printed then
abbrev pub Concludes : Ended → ℕ → Status → SinkTold → SinkTold → Type 0
Concludes ended.Over lines s before after = Prints (replay_line lines (codes "over")) s before after
Concludes ended.Lost lines s before after = Prints (replay_line lines (codes "lost")) s before after
Concludes ended.Turns lines s before after = Prints (replay_line lines (codes "turns")) s before after
Concludes ended.TraceFault lines s before after = (s ≡ status.SinkFault) × (after ≡ before)

-- ---- faults

-- a plan is refused at a key, or memory ran out
abbrev pub RefusesPlan : Option (List ℕ) → Status → SinkTold → SinkTold → Type 0
RefusesPlan (Some key) s before after = (s ≡ status.Plan) × TellsLine (plan_line key) before after
RefusesPlan None s before after = (s ≡ status.NoMemory) × (after ≡ before)

abbrev pub Refuses : FilesFault → Status → SinkTold → SinkTold → Type 0
Refuses Unread s before after = (s ≡ status.SourceFault) × TellsLine source_line before after
Refuses (Plan fault) s before after = RefusesPlan (key_of fault) s before after
Refuses (Line number) s before after = (s ≡ status.Input) × TellsLine (input_line number) before after
Refuses Memory s before after = (s ≡ status.NoMemory) × (after ≡ before)
