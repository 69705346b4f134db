-- No status of a failed call is left where none failed.
use Rattle.std.proofs.Common.{ℕ, [], ◌∷◌, refl, inl, inr, arith}
use Rattle.post_spec.specs.Codecs.{Codecs}
use Rattle.car_spec.specs.Codecs as car
use Rattle.command_status.specs.declared.status.Status.{Status}
use Rattle.command_status.specs.declared.status.Status.TheVariants as status
use Rattle.command_status.specs.Completeness.{Completes}
use Rattle.command_status.specs.Told.{SinkTold}
use Rattle.pair_command.specs.Files.{PlansTold}
use Rattle.pair_command.specs.Leaving.{TalkLeaves}
use Rattle.pair_command.proofs.Leaving.{sink_failed}

pub complete : (c : Codecs) (cc : car.Codecs) (tells : Type 0) (seed : ℕ) (s : Status) (files : PlansTold) (before after : SinkTold) → TalkLeaves c cc tells seed s files before after
    → Completes ((files.n, files.m) ∷ (before.faults, after.faults) ∷ []) (status.Plan ∷ []) s
complete c cc tells seed status.Done files before after h none = inl refl
complete c cc tells seed status.NoMemory files before after h none = inr (inl refl)
complete c cc tells seed status.Plan files before after h none = inr (inr (inl refl))
complete c cc tells seed status.SinkFault files before after h none = absurd (omega (arith, sink_failed c cc tells seed status.SinkFault files before after h refl, none.1.0))
complete c cc tells seed status.SourceFault files before after h none = absurd (omega (arith, h.unread.0 refl, none.0))
complete c cc tells seed _ files before after h none = absurd h.leaves
