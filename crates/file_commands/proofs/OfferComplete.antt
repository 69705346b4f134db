-- No status of a failed call is left where none failed.
use Rattle.std.proofs.Common.{ℕ, [], ◌∷◌, refl, inl, inr, arith}
use Rattle.command_status.specs.declared.status.Status.{Status}
use Rattle.command_status.specs.declared.status.Status.TheVariants as status
use Rattle.command_status.specs.Completeness.{Completes}
use Rattle.command_status.specs.Told.{FileTold, SinkTold}
use Rattle.file_commands.specs.Offering.{OfferLeaves}

pub complete : (moment : ℕ) (s : Status) (file : FileTold) (before after : SinkTold) → OfferLeaves moment s file before after
    → Completes ((file.n, file.m) ∷ (before.faults, after.faults) ∷ []) (status.Plan ∷ []) s
complete moment status.Done file before after leaves none = inl refl
complete moment status.NoMemory file before after leaves none = inr (inl refl)
complete moment status.Words file before after leaves none = absurd leaves.leaves
complete moment status.Plan file before after leaves none = inr (inr (inl refl))
complete moment status.Input file before after leaves none = absurd leaves.leaves
complete moment status.WireFault file before after leaves none = absurd leaves.leaves
complete moment status.SinkFault file before after leaves none = absurd (omega (arith, leaves.leaves.2.0, none.1.0))
complete moment status.SourceFault file before after leaves none = absurd (omega (arith, leaves.unread.0 refl, none.0))
complete moment status.TurnsSpent file before after leaves none = absurd leaves.leaves
complete moment status.AuditNo file before after leaves none = absurd leaves.leaves
complete moment status.Unreached file before after leaves none = absurd leaves.leaves
complete moment status.NoSchedule file before after leaves none = absurd leaves.leaves
complete moment status.NoSet file before after leaves none = absurd leaves.leaves
