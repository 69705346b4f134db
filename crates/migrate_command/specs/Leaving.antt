-- Own: what the command `migrate` leaves of the trace that it writes and of the output.
use Rattle.std.specs.Prelude.{◌≡◌, ◌⊎◌, ◌↔◌, ℕ, ◌+◌, ◌<◌, List, length, Option, IsSomeAnd}
use Rattle.charge_world.specs.declared.entry.Entry.{Entry}
use Rattle.command_status.specs.declared.status.Status.{Status}
use Rattle.command_status.specs.declared.status.Status.TheVariants as status
use Rattle.command_status.specs.FaultLines.{input_line, source_line}
use Rattle.command_status.specs.Told.{OfText}
use Rattle.migrate_command.specs.declared.reading.FileFault.{FileFault}
use Rattle.migrate_command.specs.declared.reading.FileFault.TheVariants.{Unread, Line, Memory}
use Rattle.migrate_command.specs.Formats.{IsPlainTrace, IsRefusedAt, numbered_text}
use Rattle.migrate_command.specs.Lines.{SinkChange, lines_line, IsUntouched, IsWhole, IsCutOff, TellsLine}

-- what is wrong with the file. Want of memory comes freely
abbrev pub HasFault : Type 0 → Option (List ℕ) → FileFault → Type 0
HasFault tells file Unread = Unit {0}
HasFault tells file (Line number) = OfText tells file (λ text. IsRefusedAt text number)
HasFault tells file Memory = Unit {0}

-- how many lines the text of a trace has: the first, and one for each entry
abbrev pub lines_of : List Entry → ℕ
lines_of entries = length entries + 1

-- ---- by each status

-- the text of the entries in format 2 was written, and how many lines that has
pub record IsWritten (entries : List Entry) (trace out : SinkChange) : Type 0 where
  pub text : IsWhole trace (numbered_text entries)
  pub line : IsWhole out (lines_line (lines_of entries))

-- the text couldn't be written, and nothing was printed; or the line couldn't
pub record IsTextCut (entries : List Entry) (trace out : SinkChange) : Type 0 where
  pub text : IsCutOff trace (numbered_text entries)
  pub line : IsUntouched out

pub record IsLineCut (entries : List Entry) (trace out : SinkChange) : Type 0 where
  pub text : IsWhole trace (numbered_text entries)
  pub line : IsCutOff out (lines_line (lines_of entries))

abbrev pub IsCut : List Entry → SinkChange → SinkChange → Type 0
IsCut entries trace out = IsTextCut entries trace out ⊎ IsLineCut entries trace out

-- of entries, by how far their text was written
abbrev pub Wrote : List Entry → Status → SinkChange → SinkChange → Type 0
Wrote entries status.Done trace out = IsWritten entries trace out
Wrote entries status.SinkFault trace out = IsCut entries trace out
Wrote entries status.NoMemory trace out = IsUntouched trace × IsUntouched out
Wrote entries _ trace out = ⊥

-- the entries are those of the file, which is a trace of format 1
pub record WasMigrated (tells : Type 0) (file : Option (List ℕ)) (P : List Entry → Type 0) : Type 0 where
  pub entries : List Entry
  pub file_is : OfText tells file (λ text. IsPlainTrace text entries)
  pub wrote : P entries

-- the line at which the file is refused was told
pub record IsInputTold (tells : Type 0) (file : Option (List ℕ)) (out : SinkChange) : Type 0 where
  pub number : ℕ
  pub refused : OfText tells file (λ text. IsRefusedAt text number)
  pub line : TellsLine (input_line number) out

-- the line of a fault of the file
abbrev pub Refuses : FileFault → Status → SinkChange → Type 0
Refuses Unread s out = (s ≡ status.SourceFault) × TellsLine source_line out
Refuses (Line number) s out = (s ≡ status.Input) × TellsLine (input_line number) out
Refuses Memory s out = (s ≡ status.NoMemory) × IsUntouched out

abbrev pub LeavesBy : Type 0 → Status → Option (List ℕ) → SinkChange → SinkChange → Type 0
LeavesBy tells status.Done file trace out = WasMigrated tells file (λ entries. IsWritten entries trace out)
LeavesBy tells status.SinkFault file trace out = WasMigrated tells file (λ entries. IsCut entries trace out)
LeavesBy tells status.Input file trace out = IsUntouched trace × IsInputTold tells file out
LeavesBy tells status.SourceFault file trace out = IsUntouched trace × TellsLine source_line out
LeavesBy tells status.NoMemory file trace out = IsUntouched trace × IsUntouched out
LeavesBy tells _ file trace out = ⊥

-- ---- by the text of the file, where the source tells it and it could be read, but for want of memory, which comes freely

pub record IsDecided (s : Status) (file : Option (List ℕ)) (trace out : SinkChange) : Type 0 where
  pub input : (number : ℕ) → IsSomeAnd file (λ text. IsRefusedAt text number) → ((s ≡ status.Input) × TellsLine (input_line number) out) ⊎ (s ≡ status.NoMemory)
  pub done : (entries : List Entry) → IsSomeAnd file (λ text. IsPlainTrace text entries) → trace.m ≡ trace.n → out.m ≡ out.n → (s ≡ status.Done) ⊎ (s ≡ status.NoMemory)

-- All is as the file says, whose source's count of faults went from n to m. It could not be read exactly where that rose
pub record MigrateLeaves (tells : Type 0) (s : Status) (file : Option (List ℕ)) (n m : ℕ) (trace out : SinkChange) : Type 0 where
  pub leaves : LeavesBy tells s file trace out
  pub unread : (s ≡ status.SourceFault) ↔ (n < m)
  pub decided : tells → m ≡ n → IsDecided s file trace out

-- nothing was written to the trace before these
abbrev pub IsUnbegun : Status → Type 0
IsUnbegun status.NoMemory = Unit {0}
IsUnbegun status.Input = Unit {0}
IsUnbegun status.SourceFault = Unit {0}
IsUnbegun _ = ⊥
