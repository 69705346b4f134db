-- What is left, by the answer or by what is wrong.
use Rattle.std.proofs.Common.{◌≡◌, inl, inr, ℕ, ◌<◌, List, Option, Some, None, refl, sym, subst}
use Rattle.plan_keys.specs.declared.fault.PlanFault.{PlanFault}
use Rattle.plan_files.specs.FileTexts.{Told, CountsFault}
use Rattle.plan_files.specs.Plans.{IsFaultBy}
use Rattle.plan_files.specs.declared.plans.PlanFileFault.{PlanFileFault}
use Rattle.plan_files.specs.declared.plans.PlanFileFault.TheVariants.{Unread, Refused}
use Rattle.command_status.specs.declared.status.Status.{Status}
use Rattle.command_status.specs.declared.status.Status.TheVariants as status
use Rattle.command_status.specs.Told.{FileTold, SinkTold, Prints}
use Rattle.schedules.specs.declared.power.Need.{Need}
use Rattle.charging_files.specs.ScheduleKeys.{IsNeed}
use Rattle.charging_files.specs.ScheduleFiles.{IsNeedOf, need_told}
use Rattle.charging_files.specs.FileLines.{key_of, RefusesBy, Refuses}
use Rattle.service_messages.specs.ScheduleFault.TheVariants as none
use Rattle.charging_files.proofs.Told.{told_fault, was_read, never, same_output}
use Rattle.payload_commands.specs.declared.answers.NoAnswer.{NoAnswer}
use Rattle.payload_commands.specs.declared.answers.NoAnswer.TheVariants.{Place, Schedule, Memory}
use Rattle.payload_commands.specs.Scheduling.{IsAnswerText, IsNoAnswer, NoAnswerTold, AnswersBy, IsAnswerStatus, AnswersFile, LeavesBy, ScheduleLeaves}

-- ---- an answer

pub printed_answers : (need : Need) (hex lines : List ℕ) (s : Status) (before after : SinkTold) → IsAnswerText need hex lines → Prints lines s before after
    → AnswersBy s need hex before after
printed_answers need hex lines s before after is (inl h) = subst (λ (s : Status). AnswersBy s need hex before after) (sym h.0) (lines, is, h.1)
printed_answers need hex lines s before after is (inr h) = subst (λ (s : Status). AnswersBy s need hex before after) (sym h.0) (lines, is, h.1)

pub printed_status : (lines : List ℕ) (s : Status) (before after : SinkTold) → Prints lines s before after → IsAnswerStatus s
printed_status lines s before after (inl h) = subst (λ (s : Status). IsAnswerStatus s) (sym h.0) tt
printed_status lines s before after (inr h) = subst (λ (s : Status). IsAnswerStatus s) (sym h.0) tt

pub refused_answers : (need : Need) (hex : List ℕ) (fault : NoAnswer) (s : Status) (before after : SinkTold) → IsNoAnswer need hex fault
    → NoAnswerTold fault s before after → AnswersBy s need hex before after
refused_answers need hex (Place place) s before after is h = subst (λ (s : Status). AnswersBy s need hex before after) (sym h.0) (place, is, h.1)
refused_answers need hex (Schedule none.NoSchedule) s before after is h = subst (λ (s : Status). AnswersBy s need hex before after) (sym h.0) (is, h.1)
refused_answers need hex (Schedule none.Unreached) s before after is h = subst (λ (s : Status). AnswersBy s need hex before after) (sym h.0) (is, h.1)
refused_answers need hex Memory s before after is h = subst (λ (s : Status). AnswersBy s need hex before after) (sym h.0) h.1

pub refused_status : (fault : NoAnswer) (s : Status) (before after : SinkTold) → NoAnswerTold fault s before after → IsAnswerStatus s
refused_status (Place place) s before after h = subst IsAnswerStatus (sym h.0) tt
refused_status (Schedule none.NoSchedule) s before after h = subst IsAnswerStatus (sym h.0) tt
refused_status (Schedule none.Unreached) s before after h = subst IsAnswerStatus (sym h.0) tt
refused_status Memory s before after h = subst IsAnswerStatus (sym h.0) tt

-- ---- a need

file_leaves : (s : Status) (hex : List ℕ) (file : FileTold) (before after : SinkTold) → IsAnswerStatus s → AnswersFile s hex file before after
    → LeavesBy s hex file before after
file_leaves status.Done hex file before after other h = h
file_leaves status.NoMemory hex file before after other h = h.answers
file_leaves status.Plan hex file before after other h = absurd other
file_leaves status.Input hex file before after other h = h
file_leaves status.SinkFault hex file before after other h = h
file_leaves status.SourceFault hex file before after other h = absurd other
file_leaves status.Unreached hex file before after other h = h
file_leaves status.NoSchedule hex file before after other h = h
file_leaves _ hex file before after other h = h

pub answers : (need : Need) (s : Status) (hex : List ℕ) (file : FileTold) (before after : SinkTold) → IsNeed need → Told file.left file.text (λ t. IsNeedOf t need)
    → file.m ≡ file.n → AnswersBy s need hex before after → IsAnswerStatus s → ScheduleLeaves s hex file before after
answers need s hex file before after within read same by other = record {
  leaves = file_leaves s hex file before after other (record { need = need; within = within; read = read; answers = by });
  unread = (λ unread. absurd (subst IsAnswerStatus unread other), λ less. absurd (never file.n file.m same less));
}

-- ---- a fault of the file

no_fault : status.Plan ≡ status.SourceFault → ⊥
no_fault e = cc

no_room : status.NoMemory ≡ status.SourceFault → ⊥
no_room e = cc

by_key : (fault : PlanFault) (k : Option (List ℕ)) (s : Status) (hex : List ℕ) (file : FileTold) (before after : SinkTold) → key_of fault ≡ k
    → IsFaultBy need_told file.left file.text (Refused fault) → (file.n < file.m → ⊥)
    → RefusesBy k s before after → ScheduleLeaves s hex file before after
by_key fault (Some key) s hex file before after is has same h =
    subst (λ (s : Status). ScheduleLeaves s hex file before after) (sym h.0)
    (record { leaves = (key, told_fault need_told fault key file.left file.text is has, h.1); unread = (λ e. absurd (no_fault e), λ less. absurd (same less)) })
by_key fault None s hex file before after is has same h =
    subst (λ (s : Status). ScheduleLeaves s hex file before after) (sym h.0)
    (record { leaves = same_output before after h.1 h.2; unread = (λ e. absurd (no_room e), λ less. absurd (same less)) })

pub refuses : (fault : PlanFileFault) (s : Status) (hex : List ℕ) (file : FileTold) (before after : SinkTold) → IsFaultBy need_told file.left file.text fault
    → CountsFault Unread file.n file.m fault → Refuses fault s before after → ScheduleLeaves s hex file before after
refuses Unread s hex file before after has counts h =
    subst (λ (s : Status). ScheduleLeaves s hex file before after) (sym h.0)
    (record { leaves = h.1; unread = (λ is. counts.risen.0 refl, λ less. refl) })
refuses (Refused fault) s hex file before after has counts h =
    by_key fault (key_of fault) s hex file before after refl has (λ less. was_read fault (counts.risen.1 less)) h

-- ---- what a status says of the output

pub memory_leaves : (s : Status) (hex : List ℕ) (file : FileTold) (before after : SinkTold) → ScheduleLeaves s hex file before after → s ≡ status.NoMemory → after ≡ before
memory_leaves s hex file before after h is = subst (λ (s : Status). LeavesBy s hex file before after) is h.leaves

pub sink_leaves : (s : Status) (hex : List ℕ) (file : FileTold) (before after : SinkTold) → ScheduleLeaves s hex file before after → s ≡ status.SinkFault
    → before.faults < after.faults
sink_leaves s hex file before after h is = (subst (λ (s : Status). LeavesBy s hex file before after) is h.leaves).answers.2.0
