-- Own: what the command `offer` leaves.
use Rattle.std.specs.Prelude.{◌≡◌, ◌⊎◌, ℕ, List, Option, IsSome, IsSomeAnd}
use Rattle.schedules.specs.declared.power.Calendar.{Calendar}
use Rattle.schedules.specs.Offers.{IsCalendar}
use Rattle.schedules.specs.Lines.{IsOfferText}
use Rattle.charging_files.specs.ScheduleFiles.{IsCalendarOf, calendar_told}
use Rattle.plan_files.specs.FileTexts.{Told}
use Rattle.command_status.specs.declared.status.Status.{Status}
use Rattle.command_status.specs.declared.status.Status.TheVariants as status
use Rattle.command_status.specs.FaultLines.{plan_line, source_line}
use Rattle.command_status.specs.Told.{FileTold, SinkTold, TellsLine, Writes, WritesFront, Prints}
use Rattle.charging_files.specs.FileLines.{IsRefusedBy, IsUnread}

-- the lines of the one offer of a text's calendar at a moment
pub record IsOffered (moment : ℕ) (text lines : List ℕ) : Type 0 where
  pub calendar : Calendar
  pub read : IsCalendarOf text calendar
  pub lines_are : IsOfferText calendar.entries.items moment lines

-- those of some calendar, which is the file's where that is told
pub record IsOfferedIn (moment : ℕ) (left text : Option (List ℕ)) (lines : List ℕ) : Type 0 where
  pub calendar : Calendar
  pub within : IsCalendar calendar.entries.items
  pub lines_are : IsOfferText calendar.entries.items moment lines
  pub file : Told left text (λ t. IsCalendarOf t calendar)

abbrev pub LeavesBy : ℕ → Status → FileTold → SinkTold → SinkTold → Type 0
LeavesBy moment status.Done file before after = (lines : List ℕ) × IsOfferedIn moment file.left file.text lines × Writes lines before after
LeavesBy moment status.SinkFault file before after = (lines : List ℕ) × IsOfferedIn moment file.left file.text lines × WritesFront lines before after
LeavesBy moment status.Plan file before after =
    (key : List ℕ) × Told file.left file.text (λ t. IsRefusedBy calendar_told t key) × TellsLine (plan_line key) before after
LeavesBy moment status.SourceFault file before after = TellsLine source_line before after
LeavesBy moment status.NoMemory file before after = after ≡ before
LeavesBy moment _ file before after = ⊥

-- by the text of the file, where the source tells it to the last call and it could be read: what is printed, or the key that is told; but
-- for want of memory
pub record IsDecided (moment : ℕ) (s : Status) (text : Option (List ℕ)) (before after : SinkTold) : Type 0 where
  pub offered : (lines : List ℕ) → IsSomeAnd text (λ t. IsOffered moment t lines) → Prints lines s before after ⊎ (s ≡ status.NoMemory)
  pub refused : (key : List ℕ) → IsSomeAnd text (λ t. IsRefusedBy calendar_told t key)
      → ((s ≡ status.Plan) × TellsLine (plan_line key) before after) ⊎ (s ≡ status.NoMemory)

-- All is as the file says. It could not be read exactly where the source's count of faults rose, and else the file decides
pub record OfferLeaves (moment : ℕ) (s : Status) (file : FileTold) (before after : SinkTold) : Type 0 where
  pub leaves : LeavesBy moment s file before after
  pub unread : IsUnread s file
  pub decided : IsSome file.left → file.m ≡ file.n → IsDecided moment s file.text before after
