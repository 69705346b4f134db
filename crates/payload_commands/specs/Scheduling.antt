-- Own: what the command `schedule` leaves.
use Rattle.std.specs.Prelude.{◌≡◌, ℕ, List, ◌++◌, codes}
use Rattle.hex.specs.Hex.{encode_lower}
use Rattle.hex_payloads.specs.HexText.{IsHexOf}
use Rattle.exi_documents.specs.declared.refusal.RefusalCause.{RefusalCause}
use Rattle.iso_message.specs.Documents.{IsIsoRefused}
use Rattle.schedules.specs.declared.power.Need.{Need}
use Rattle.schedules.specs.declared.power.Profile.{Profile}
use Rattle.service_messages.specs.ScheduleFault.{ScheduleFault}
use Rattle.service_messages.specs.ScheduleFault.TheVariants as none
use Rattle.service_messages.specs.Answers.{IsAnswerIn, IsRequestIn, IsFaultIn}
use Rattle.charging_files.specs.ScheduleKeys.{IsNeed}
use Rattle.charging_files.specs.ScheduleFiles.{IsNeedOf, need_told}
use Rattle.schedules.specs.Lines.{profile_text}
use Rattle.plan_files.specs.FileTexts.{Told}
use Rattle.command_status.specs.declared.status.Status.TheVariants as status
use Rattle.command_status.specs.FaultLines.{input_line, plan_line, source_line}
use Rattle.charging_files.specs.FileLines.{IsRefusedBy, IsUnread}
use Rattle.command_status.specs.declared.status.Status.{Status}
use Rattle.command_status.specs.Told.{FileTold, SinkTold, TellsLine, Writes, WritesFront}
use Rattle.payload_commands.specs.Refusals.{IsRefusedAt}
use Rattle.payload_commands.specs.declared.answers.NoAnswer.{NoAnswer}
use Rattle.payload_commands.specs.declared.answers.NoAnswer.TheVariants.{Place, Schedule, Memory}

-- no profile of any schedule reaches the energy
abbrev pub unreached_line : List ℕ
unreached_line = codes "unreached\n"

-- the message has no schedules that can be answered
abbrev pub no_schedule_line : List ℕ
no_schedule_line = codes "no schedule\n"

-- ---- the answer

-- the lines of a profile, and the payload of its request in lower-case digits
abbrev pub answer_lines : Profile → List ℕ → List ℕ
answer_lines profile request = profile_text profile ++ (encode_lower request ++ codes "\n")

-- the text of the answer to a payload
pub record IsTextOf (need : Need) (payload text : List ℕ) : Type 0 where
  pub profile : Profile
  pub request : List ℕ
  pub answer : IsAnswerIn payload need profile
  pub request_is : IsRequestIn profile request
  pub text_is : text ≡ answer_lines profile request

-- that to the payload of a hexadecimal text
abbrev pub IsAnswerText : Need → List ℕ → List ℕ → Type 0
IsAnswerText need hex text = (payload : List ℕ) × IsHexOf hex payload × IsTextOf need payload text

-- the message of its payload has no answer
abbrev pub HasNone : Need → List ℕ → ScheduleFault → Type 0
HasNone need hex fault = (payload : List ℕ) × IsHexOf hex payload × IsFaultIn payload need fault

-- of a payload, and of a hexadecimal text
abbrev pub IsNoAnswerTo : Need → List ℕ → NoAnswer → Type 0
IsNoAnswerTo need payload (Place place) = (why : RefusalCause) × IsIsoRefused payload why place
IsNoAnswerTo need payload (Schedule fault) = IsFaultIn payload need fault
IsNoAnswerTo need payload Memory = Unit {0}

abbrev pub IsNoAnswer : Need → List ℕ → NoAnswer → Type 0
IsNoAnswer need hex (Place place) = IsRefusedAt hex place
IsNoAnswer need hex (Schedule fault) = HasNone need hex fault
IsNoAnswer need hex Memory = Unit {0}

-- the line of that is told
abbrev pub NoAnswerTold : NoAnswer → Status → SinkTold → SinkTold → Type 0
NoAnswerTold (Place place) s before after = (s ≡ status.Input) × TellsLine (input_line place) before after
NoAnswerTold (Schedule none.NoSchedule) s before after = (s ≡ status.NoSchedule) × TellsLine no_schedule_line before after
NoAnswerTold (Schedule none.Unreached) s before after = (s ≡ status.Unreached) × TellsLine unreached_line before after
NoAnswerTold Memory s before after = (s ≡ status.NoMemory) × (after ≡ before)

-- ---- the output

-- by a need and the hexadecimal text of a payload
abbrev pub AnswersBy : Status → Need → List ℕ → SinkTold → SinkTold → Type 0
AnswersBy status.Done need hex before after = (text : List ℕ) × IsAnswerText need hex text × Writes text before after
AnswersBy status.SinkFault need hex before after = (text : List ℕ) × IsAnswerText need hex text × WritesFront text before after
AnswersBy status.Input need hex before after = (place : ℕ) × IsRefusedAt hex place × TellsLine (input_line place) before after
AnswersBy status.NoMemory need hex before after = after ≡ before
AnswersBy status.Unreached need hex before after = HasNone need hex none.Unreached × TellsLine unreached_line before after
AnswersBy status.NoSchedule need hex before after = HasNone need hex none.NoSchedule × TellsLine no_schedule_line before after
AnswersBy _ need hex before after = ⊥

-- no status of a fault of the file
abbrev pub IsAnswerStatus : Status → Type 0
IsAnswerStatus status.Plan = ⊥
IsAnswerStatus status.SourceFault = ⊥
IsAnswerStatus _ = Unit {0}

-- by some need, which is the file's where that is told
pub record AnswersFile (s : Status) (hex : List ℕ) (file : FileTold) (before after : SinkTold) : Type 0 where
  pub need : Need
  pub within : IsNeed need
  pub read : Told file.left file.text (λ t. IsNeedOf t need)
  pub answers : AnswersBy s need hex before after

abbrev pub LeavesBy : Status → List ℕ → FileTold → SinkTold → SinkTold → Type 0
LeavesBy status.Plan hex file before after =
    (key : List ℕ) × Told file.left file.text (λ t. IsRefusedBy need_told t key) × TellsLine (plan_line key) before after
LeavesBy status.SourceFault hex file before after = TellsLine source_line before after
LeavesBy status.NoMemory hex file before after = after ≡ before
LeavesBy s hex file before after = AnswersFile s hex file before after

-- All is as the file and the payload say. The file could not be read exactly where the source's count of faults rose
pub record ScheduleLeaves (s : Status) (hex : List ℕ) (file : FileTold) (before after : SinkTold) : Type 0 where
  pub leaves : LeavesBy s hex file before after
  pub unread : IsUnread s file
