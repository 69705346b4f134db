-- No status of a failed call is left where none failed.
use Rattle.std.proofs.Common.{◌≡◌, ◌<◌, [], ◌∷◌, ◌⊎◌, refl, inl, inr, arith}
use Rattle.command_status.specs.declared.status.Status.{Status}
use Rattle.command_status.specs.declared.status.Status.TheVariants as status
use Rattle.command_status.specs.Completeness.{Completes}
use Rattle.command_status.proofs.Completeness.{neither}
use Rattle.command_status.specs.Told.{SinkTold}
use Rattle.post_spec.specs.Codecs.{Codecs}
use Rattle.planned_traces.specs.Files.{FilesTold}
use Rattle.replay_command.specs.Replays.{ReplayLeaves}

pub complete : (c : Codecs) (tells : Type 0) (s : Status) (files : FilesTold) (trace_before trace out_before out : SinkTold) → ReplayLeaves c tells s files trace_before trace out_before out
    → (s ≡ status.SinkFault → (out_before.faults < out.faults) ⊎ (trace_before.faults < trace.faults))
    → Completes ((files.n, files.m) ∷ (out_before.faults, out.faults) ∷ (trace_before.faults, trace.faults) ∷ []) (status.Plan ∷ status.Input ∷ []) s
complete c tells status.Done files trace_before trace out_before out leaves sinks none = inl refl
complete c tells status.NoMemory files trace_before trace out_before out leaves sinks none = inr (inl refl)
complete c tells status.Words files trace_before trace out_before out leaves sinks none = absurd leaves.leaves
complete c tells status.Plan files trace_before trace out_before out leaves sinks none = inr (inr (inl refl))
complete c tells status.Input files trace_before trace out_before out leaves sinks none = inr (inr (inr (inl refl)))
complete c tells status.WireFault files trace_before trace out_before out leaves sinks none = absurd leaves.leaves
complete c tells status.SinkFault files trace_before trace out_before out leaves sinks none = absurd (neither out_before.faults out.faults trace_before.faults trace.faults (sinks refl) none.1.0 none.1.1.0)
complete c tells status.SourceFault files trace_before trace out_before out leaves sinks none = absurd (omega (arith, leaves.unread.0 refl, none.0))
complete c tells status.TurnsSpent files trace_before trace out_before out leaves sinks none = absurd leaves.leaves
complete c tells status.AuditNo files trace_before trace out_before out leaves sinks none = absurd leaves.leaves
complete c tells status.Unreached files trace_before trace out_before out leaves sinks none = absurd leaves.leaves
complete c tells status.NoSchedule files trace_before trace out_before out leaves sinks none = absurd leaves.leaves
complete c tells status.NoSet files trace_before trace out_before out leaves sinks none = absurd leaves.leaves
