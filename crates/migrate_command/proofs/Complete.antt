-- No status of a failed call is left where none failed.
use Rattle.std.proofs.Common.{◌≡◌, ◌<◌, ℕ, List, [], ◌∷◌, Option, ◌⊎◌, refl, inl, inr, arith}
use Rattle.command_status.specs.declared.status.Status.{Status}
use Rattle.command_status.specs.declared.status.Status.TheVariants as status
use Rattle.command_status.specs.Completeness.{Completes}
use Rattle.command_status.proofs.Completeness.{neither}
use Rattle.migrate_command.specs.Lines.{SinkChange}
use Rattle.migrate_command.specs.Leaving.{MigrateLeaves}

pub complete : (tells : Type 0) (s : Status) (file : Option (List ℕ)) (n m : ℕ) (trace out : SinkChange) → MigrateLeaves tells s file n m trace out
    → (s ≡ status.SinkFault → (out.n < out.m) ⊎ (trace.n < trace.m)) → Completes ((n, m) ∷ (out.n, out.m) ∷ (trace.n, trace.m) ∷ []) (status.Input ∷ []) s
complete tells status.Done file n m trace out leaves sinks none = inl refl
complete tells status.NoMemory file n m trace out leaves sinks none = inr (inl refl)
complete tells status.Words file n m trace out leaves sinks none = absurd leaves.leaves
complete tells status.Plan file n m trace out leaves sinks none = absurd leaves.leaves
complete tells status.Input file n m trace out leaves sinks none = inr (inr (inl refl))
complete tells status.WireFault file n m trace out leaves sinks none = absurd leaves.leaves
complete tells status.SinkFault file n m trace out leaves sinks none = absurd (neither out.n out.m trace.n trace.m (sinks refl) none.1.0 none.1.1.0)
complete tells status.SourceFault file n m trace out leaves sinks none = absurd (omega (arith, leaves.unread.0 refl, none.0))
complete tells status.TurnsSpent file n m trace out leaves sinks none = absurd leaves.leaves
complete tells status.AuditNo file n m trace out leaves sinks none = absurd leaves.leaves
complete tells status.Unreached file n m trace out leaves sinks none = absurd leaves.leaves
complete tells status.NoSchedule file n m trace out leaves sinks none = absurd leaves.leaves
complete tells status.NoSet file n m trace out leaves sinks none = absurd leaves.leaves
