-- Own: what the command `basic` leaves.
use Rattle.std.specs.Prelude.{◌≡◌, ◌⊎◌, ℕ, ◌≤◌, List, length, Option, IsSome, IsSomeAnd}
use Rattle.pilot_basic.specs.Machine.{Step}
use Rattle.file_commands.specs.Scripts.{longest, printed_of, IsRead, IsPrinted, IsRefusedAt}
use Rattle.plan_files.specs.FileTexts.{Told}
use Rattle.command_status.specs.declared.status.Status.{Status}
use Rattle.command_status.specs.declared.status.Status.TheVariants as status
use Rattle.command_status.specs.FaultLines.{input_line, source_line}
use Rattle.command_status.specs.Told.{FileTold, SinkTold, TellsLine, Writes, WritesFront, Prints}
use Rattle.charging_files.specs.FileLines.{IsUnread}
use Rattle.file_commands.specs.Charging.{IsCharged}
use Rattle.file_commands.specs.declared.script_files.ScriptFault.{ScriptFault}
use Rattle.file_commands.specs.declared.script_files.ScriptFault.TheVariants.{Unread, Line, Memory}

-- the script is the events of this past
pub record IsScript (past : List Step) (script : List ℕ) : Type 0 where
  pub within : length script ≤ longest
  pub read : IsRead past script

-- these are the lines of the orders of a past, which is charged as it ought to be, for the script in the file
pub record IsPrintedIn (left text : Option (List ℕ)) (printed : List ℕ) : Type 0 where
  pub past : List Step
  pub charged : IsCharged past
  pub printed_is : printed ≡ printed_of past
  pub script : Told left text (IsScript past)

-- what is wrong with the file. Want of memory comes freely
abbrev pub HasFault : Option (List ℕ) → Option (List ℕ) → ScriptFault → Type 0
HasFault left text Unread = Unit {0}
HasFault left text (Line number) = Told left text (λ t. IsRefusedAt t number)
HasFault left text Memory = Unit {0}

-- ---- the output

abbrev pub Refuses : ScriptFault → Status → SinkTold → SinkTold → Type 0
Refuses Unread s before after = (s ≡ status.SourceFault) × TellsLine source_line before after
Refuses (Line number) s before after = (s ≡ status.Input) × TellsLine (input_line number) before after
Refuses Memory s before after = (s ≡ status.NoMemory) × (after ≡ before)

-- ---- the command

abbrev pub LeavesBy : Status → FileTold → SinkTold → SinkTold → Type 0
LeavesBy status.Done file before after = (printed : List ℕ) × IsPrintedIn file.left file.text printed × Writes printed before after
LeavesBy status.SinkFault file before after = (printed : List ℕ) × IsPrintedIn file.left file.text printed × WritesFront printed before after
LeavesBy status.Input file before after = (number : ℕ) × Told file.left file.text (λ t. IsRefusedAt t number) × TellsLine (input_line number) before after
LeavesBy status.SourceFault file before after = TellsLine source_line before after
LeavesBy status.NoMemory file before after = after ≡ before
LeavesBy _ file before after = ⊥

-- by the text of the file, where the source tells it to the last call and it could be read: what is printed, or the line that is told; but
-- for want of memory
pub record IsDecided (s : Status) (text : Option (List ℕ)) (before after : SinkTold) : Type 0 where
  pub printed : (printed : List ℕ) → IsSomeAnd text (λ t. IsPrinted t printed) → Prints printed s before after ⊎ (s ≡ status.NoMemory)
  pub refused : (number : ℕ) → IsSomeAnd text (λ t. IsRefusedAt t number)
      → ((s ≡ status.Input) × TellsLine (input_line number) before after) ⊎ (s ≡ status.NoMemory)

-- All is as the file says. It could not be read exactly where the source's count of faults rose, and else the file decides
pub record BasicLeaves (s : Status) (file : FileTold) (before after : SinkTold) : Type 0 where
  pub leaves : LeavesBy s file before after
  pub unread : IsUnread s file
  pub decided : IsSome file.left → file.m ≡ file.n → IsDecided s file.text before after
