-- Own: what the command `schedule` comes to, by the text of a need's file and the hexadecimal text of a payload.
use Rattle.std.specs.Prelude.{◌≡◌, ℕ, List}
use Rattle.command_status.specs.declared.status.Status.TheVariants as status
use Rattle.command_status.specs.FaultLines.{input_line, plan_line}
use Rattle.hex_payloads.specs.HexText.{IsHexOf}
use Rattle.schedules.specs.declared.power.Need.{Need}
use Rattle.schedules.specs.declared.power.Profile.{Profile}
use Rattle.charging_files.specs.ScheduleFiles.{IsNeedOf, need_told}
use Rattle.service_messages.specs.ScheduleFault.{ScheduleFault}
use Rattle.service_messages.specs.ScheduleFault.TheVariants as none
use Rattle.service_messages.specs.Answers.{IsAnswerIn, IsRequestIn}
use Rattle.charging_files.specs.FileLines.{IsRefusedBy}
use Rattle.command_status.specs.declared.status.Status.{Status}
use Rattle.command_status.specs.Told.{SinkTold, TellsLine, Prints}
use Rattle.payload_commands.specs.Refusals.{IsRefusedAt}
use Rattle.payload_commands.specs.Scheduling.{answer_lines, unreached_line, no_schedule_line, HasNone}

-- the file is refused at a key, or else the payload at a place, or else it has no answer, or else this profile answers it
pub data Fate : Type 0 where
  Wrong : List ℕ → Fate
  Bad : ℕ → Fate
  Without : ScheduleFault → Fate
  With : Profile → Fate

abbrev pub IsFate : List ℕ → List ℕ → Fate → Type 0
IsFate text hex (Wrong key) = IsRefusedBy need_told text key
IsFate text hex (Bad place) = (need : Need) × IsNeedOf text need × IsRefusedAt hex place
IsFate text hex (Without fault) = (need : Need) × IsNeedOf text need × HasNone need hex fault
IsFate text hex (With profile) = (need : Need) × IsNeedOf text need × (payload : List ℕ) × IsHexOf hex payload × IsAnswerIn payload need profile

-- the status and the output of a fate
abbrev pub Follows : Fate → Status → SinkTold → SinkTold → Type 0
Follows (Wrong key) s before after = (s ≡ status.Plan) × TellsLine (plan_line key) before after
Follows (Bad place) s before after = (s ≡ status.Input) × TellsLine (input_line place) before after
Follows (Without none.Unreached) s before after = (s ≡ status.Unreached) × TellsLine unreached_line before after
Follows (Without none.NoSchedule) s before after = (s ≡ status.NoSchedule) × TellsLine no_schedule_line before after
Follows (With profile) s before after = (request : List ℕ) × IsRequestIn profile request × Prints (answer_lines profile request) s before after
