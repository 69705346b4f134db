-- Own: the line that an audit prints, `audit ok lines N` or `audit no line N check C` and a line feed; and the lines of its faults.
use Rattle.std.specs.Prelude.{◌≡◌, ℕ, List, ◌++◌, codes, decimal}
use Rattle.command_status.specs.declared.status.Status.{Status}
use Rattle.command_status.specs.declared.status.Status.TheVariants as status
use Rattle.command_status.specs.FaultLines.{input_line, source_line}
use Rattle.command_status.specs.Told.{SinkTold, TellsLine}
use Rattle.charging_files.specs.FileLines.{key_of, RefusesBy}
use Rattle.planned_traces.specs.declared.recording.FilesFault.{FilesFault}
use Rattle.planned_traces.specs.declared.recording.FilesFault.TheVariants.{Unread, Plan, Line, Memory}

unfoldable pub ok_line : ℕ → List ℕ
ok_line lines = codes "audit ok lines " ++ decimal lines ++ codes "\n"

unfoldable pub no_line : ℕ → ℕ → List ℕ
no_line line check = codes "audit no line " ++ decimal line ++ codes " check " ++ decimal check ++ codes "\n"

-- the fault of the files was told; for want of memory there is no line
abbrev pub Refuses : FilesFault → Status → SinkTold → SinkTold → Type 0
Refuses Unread s before after = (s ≡ status.SourceFault) × TellsLine source_line before after
Refuses (Plan fault) s before after = RefusesBy (key_of fault) s before after
Refuses (Line number) s before after = (s ≡ status.Input) × TellsLine (input_line number) before after
Refuses Memory s before after = (s ≡ status.NoMemory) × (after.taken ≡ before.taken) × (after.faults ≡ before.faults)
