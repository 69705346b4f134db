-- No status of a failed call is left where none failed.
use Rattle.std.proofs.Common.{[], ◌∷◌, refl, inl, inr, arith}
use Rattle.told_pasts.specs.Spelling.{ToldCodecs}
use Rattle.command_status.specs.declared.status.Status.{Status}
use Rattle.command_status.specs.declared.status.Status.TheVariants as status
use Rattle.command_status.specs.Completeness.{Completes}
use Rattle.command_status.specs.Told.{SinkTold}
use Rattle.planned_traces.specs.Files.{FilesTold}
use Rattle.audit_command.specs.Leaving.{AuditLeaves}
use Rattle.audit_command.proofs.Leaving.{sink_failed}

pub complete : (c : ToldCodecs) (tells : Type 0) (s : Status) (files : FilesTold) (before after : SinkTold) → AuditLeaves c tells s files before after
    → Completes ((files.n, files.m) ∷ (before.faults, after.faults) ∷ []) (status.Plan ∷ status.Input ∷ status.AuditNo ∷ []) s
complete c tells status.Done files before after h none = inl refl
complete c tells status.NoMemory files before after h none = inr (inl refl)
complete c tells status.Plan files before after h none = inr (inr (inl refl))
complete c tells status.Input files before after h none = inr (inr (inr (inl refl)))
complete c tells status.AuditNo files before after h none = inr (inr (inr (inr (inl refl))))
complete c tells status.SinkFault files before after h none = absurd (omega (arith, sink_failed c tells status.SinkFault files before after h refl, none.1.0))
complete c tells status.SourceFault files before after h none = absurd (omega (arith, h.unread.0 refl, none.0))
complete c tells _ files before after h none = absurd h.leaves
