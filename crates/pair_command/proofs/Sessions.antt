-- What the command `generate` leaves, by its status.
use Rattle.std.proofs.Common.{◌≡◌, inl, inr, ℕ, ◌<◌, List, [], ◌∷◌, refl, sym, ap, ◌∙◌, subst, arith}
use Rattle.post_spec.specs.Codecs.{Codecs}
use Rattle.car_spec.specs.Codecs as car
use Rattle.pair_plans.specs.Lines.{generated_line}
use Rattle.pair_talk.specs.Counts.{counts}
use Rattle.pipe_spec.specs.Histories.{Happening}
use Rattle.generated_runs.proofs.Generated.{generated_runs_are_determined}
use Rattle.command_status.specs.declared.status.Status.{Status}
use Rattle.command_status.specs.declared.status.Status.TheVariants as status
use Rattle.command_status.specs.Completeness.{Completes}
use Rattle.command_status.specs.Told.{SinkTold, Writes}
use Rattle.planned_traces.specs.Files.{ComesWith}
use Rattle.planned_traces.proofs.Texts.{never}
use Rattle.pair_command.specs.Printing.{Printed}
use Rattle.pair_command.specs.Generating.{IsGeneratedLine, GenerateLeaves}
use Rattle.pair_command.proofs.Decided.{AreLawful}

-- a seed and a count have one line
one_line : (c : Codecs) (cc : car.Codecs) → AreLawful c cc → (seed count : ℕ) (a b : List ℕ) → IsGeneratedLine c cc seed count a → IsGeneratedLine c cc seed count b → a ≡ b
one_line c cc lawful seed count a b x y =
    let same : x.history ≡ y.history = generated_runs_are_determined c cc lawful.of_station lawful.of_car seed count x.history y.history x.generated y.generated in
    x.line_is ∙ ap (λ (h : List Happening). generated_line count (counts h)) same ∙ sym y.line_is

line_told : (c : Codecs) (cc : car.Codecs) → AreLawful c cc → (seed count : ℕ) (s : Status) (before after : SinkTold) → Printed (IsGeneratedLine c cc seed count) s before after
    → (line : List ℕ) → after.faults ≡ before.faults → IsGeneratedLine c cc seed count line → ComesWith status.Done (Writes line before after) s
line_told c cc lawful seed count status.Done before after h line printed is =
    inl (refl, subst (λ (l : List ℕ). Writes l before after) (one_line c cc lawful seed count h.line line h.is is) h.printed)
line_told c cc lawful seed count status.SinkFault before after h line printed is = absurd (never before.faults after.faults printed h.printed.0)
line_told c cc lawful seed count status.NoMemory before after h line printed is = inr refl
line_told c cc lawful seed count _ before after h line printed is = absurd h

pub generated : (c : Codecs) (cc : car.Codecs) → AreLawful c cc → (seed count : ℕ) (s : Status) (before after : SinkTold) → Printed (IsGeneratedLine c cc seed count) s before after
    → GenerateLeaves c cc seed count s before after
generated c cc lawful seed count s before after h = record { leaves = h; decided = line_told c cc lawful seed count s before after h }

-- memory ran out before anything was written
pub no_memory : (c : Codecs) (cc : car.Codecs) (seed count : ℕ) (before after : SinkTold) → (after.taken ≡ before.taken) × (after.faults ≡ before.faults)
    → GenerateLeaves c cc seed count status.NoMemory before after
no_memory c cc seed count before after h = record { leaves = h; decided = λ line printed is. inr refl }

-- ---- what it says by its status

pub unprinted : (IsLine : List ℕ → Type 0) (s : Status) (before after : SinkTold) → Printed IsLine s before after → s ≡ status.NoMemory
    → (after.taken ≡ before.taken) × (after.faults ≡ before.faults)
unprinted IsLine s before after h is = subst (λ (s : Status). Printed IsLine s before after) is h

pub sink_failed : (IsLine : List ℕ → Type 0) (s : Status) (before after : SinkTold) → Printed IsLine s before after → s ≡ status.SinkFault → before.faults < after.faults
sink_failed IsLine s before after h is =
    let was = subst (λ (s : Status). Printed IsLine s before after) is h in
    was.printed.0

pub complete : (IsLine : List ℕ → Type 0) (s : Status) (before after : SinkTold) → Printed IsLine s before after → Completes ((before.faults, after.faults) ∷ []) [] s
complete IsLine status.Done before after h none = inl refl
complete IsLine status.NoMemory before after h none = inr (inl refl)
complete IsLine status.SinkFault before after h none = absurd (omega (arith, h.printed.0, none.0))
complete IsLine _ before after h none = absurd h
