-- No status of a failed call is left where none failed.
use Rattle.std.proofs.Common.{[], ◌∷◌, refl, inl, inr, arith}
use Rattle.command_status.specs.declared.status.Status.{Status}
use Rattle.command_status.specs.declared.status.Status.TheVariants as status
use Rattle.command_status.specs.Completeness.{Completes}
use Rattle.command_status.specs.Told.{FileTold, SinkTold}
use Rattle.file_commands.specs.Basics.{BasicLeaves}

pub complete : (s : Status) (file : FileTold) (before after : SinkTold) → BasicLeaves s file before after
    → Completes ((file.n, file.m) ∷ (before.faults, after.faults) ∷ []) (status.Input ∷ []) s
complete status.Done file before after leaves none = inl refl
complete status.NoMemory file before after leaves none = inr (inl refl)
complete status.Words file before after leaves none = absurd leaves.leaves
complete status.Plan file before after leaves none = absurd leaves.leaves
complete status.Input file before after leaves none = inr (inr (inl refl))
complete status.WireFault file before after leaves none = absurd leaves.leaves
complete status.SinkFault file before after leaves none = absurd (omega (arith, leaves.leaves.2.0, none.1.0))
complete status.SourceFault file before after leaves none = absurd (omega (arith, leaves.unread.0 refl, none.0))
complete status.TurnsSpent file before after leaves none = absurd leaves.leaves
complete status.AuditNo file before after leaves none = absurd leaves.leaves
complete status.Unreached file before after leaves none = absurd leaves.leaves
complete status.NoSchedule file before after leaves none = absurd leaves.leaves
complete status.NoSet file before after leaves none = absurd leaves.leaves
