-- No status of a failed call is left where none failed.
use Rattle.std.proofs.Common.{ℕ, List, [], ◌∷◌, refl, inl, inr, arith}
use Rattle.command_status.specs.declared.status.Status.{Status}
use Rattle.command_status.specs.declared.status.Status.TheVariants as status
use Rattle.command_status.specs.Completeness.{Completes}
use Rattle.command_status.specs.Told.{FileTold, SinkTold}
use Rattle.payload_commands.specs.Scheduling.{ScheduleLeaves}

pub complete : (s : Status) (hex : List ℕ) (file : FileTold) (before after : SinkTold) → ScheduleLeaves s hex file before after
    → Completes ((file.n, file.m) ∷ (before.faults, after.faults) ∷ []) (status.Plan ∷ status.Input ∷ status.NoSchedule ∷ status.Unreached ∷ []) s
complete status.Done hex file before after leaves none = inl refl
complete status.NoMemory hex file before after leaves none = inr (inl refl)
complete status.Words hex file before after leaves none = absurd leaves.leaves.answers
complete status.Plan hex file before after leaves none = inr (inr (inl refl))
complete status.Input hex file before after leaves none = inr (inr (inr (inl refl)))
complete status.WireFault hex file before after leaves none = absurd leaves.leaves.answers
complete status.SinkFault hex file before after leaves none = absurd (omega (arith, leaves.leaves.answers.2.0, none.1.0))
complete status.SourceFault hex file before after leaves none = absurd (omega (arith, leaves.unread.0 refl, none.0))
complete status.TurnsSpent hex file before after leaves none = absurd leaves.leaves.answers
complete status.AuditNo hex file before after leaves none = absurd leaves.leaves.answers
complete status.Unreached hex file before after leaves none = inr (inr (inr (inr (inr (inl refl)))))
complete status.NoSchedule hex file before after leaves none = inr (inr (inr (inr (inl refl))))
complete status.NoSet hex file before after leaves none = absurd leaves.leaves.answers
