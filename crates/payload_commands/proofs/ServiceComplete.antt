-- No status of a failed call is left where none failed.
use Rattle.std.proofs.Common.{ℕ, List, [], ◌∷◌, refl, inl, inr, arith}
use Rattle.command_status.specs.declared.status.Status.{Status}
use Rattle.command_status.specs.declared.status.Status.TheVariants as status
use Rattle.command_status.specs.Completeness.{Completes}
use Rattle.command_status.specs.Told.{FileTold, SinkTold}
use Rattle.service_spec.specs.declared.Parameter.{Parameter}
use Rattle.payload_commands.specs.Detailing.{ServicesLeave}
use Rattle.payload_commands.specs.Picking.{PickLeaves}

pub complete : (id : ℕ) (s : Status) (file : FileTold) (before after : SinkTold) → ServicesLeave id s file before after
    → Completes ((file.n, file.m) ∷ (before.faults, after.faults) ∷ []) (status.Plan ∷ []) s
complete id status.Done file before after leaves none = inl refl
complete id status.NoMemory file before after leaves none = inr (inl refl)
complete id status.Words file before after leaves none = absurd leaves.leaves
complete id status.Plan file before after leaves none = inr (inr (inl refl))
complete id status.Input file before after leaves none = absurd leaves.leaves
complete id status.WireFault file before after leaves none = absurd leaves.leaves
complete id status.SinkFault file before after leaves none = absurd (omega (arith, leaves.leaves.2.0, none.1.0))
complete id status.SourceFault file before after leaves none = absurd (omega (arith, leaves.unread.0 refl, none.0))
complete id status.TurnsSpent file before after leaves none = absurd leaves.leaves
complete id status.AuditNo file before after leaves none = absurd leaves.leaves
complete id status.Unreached file before after leaves none = absurd leaves.leaves
complete id status.NoSchedule file before after leaves none = absurd leaves.leaves
complete id status.NoSet file before after leaves none = absurd leaves.leaves

pub complete_pick : (s : Status) (want hex : List ℕ) (before after : SinkTold) → PickLeaves s want hex before after
    → Completes ((before.faults, after.faults) ∷ []) (status.Words ∷ status.Input ∷ status.NoSet ∷ []) s
complete_pick status.Done want hex before after leaves none = inl refl
complete_pick status.NoMemory want hex before after leaves none = inr (inl refl)
complete_pick status.Words want hex before after leaves none = inr (inr (inl refl))
complete_pick status.Plan want hex before after leaves none = absurd leaves.2
complete_pick status.Input want hex before after leaves none = inr (inr (inr (inl refl)))
complete_pick status.WireFault want hex before after leaves none = absurd leaves.2
complete_pick status.SinkFault want hex before after leaves none = absurd (omega (arith, leaves.2.2.0, none.0))
complete_pick status.SourceFault want hex before after leaves none = absurd leaves.2
complete_pick status.TurnsSpent want hex before after leaves none = absurd leaves.2
complete_pick status.AuditNo want hex before after leaves none = absurd leaves.2
complete_pick status.Unreached want hex before after leaves none = absurd leaves.2
complete_pick status.NoSchedule want hex before after leaves none = absurd leaves.2
complete_pick status.NoSet want hex before after leaves none = inr (inr (inr (inr (inl refl))))
