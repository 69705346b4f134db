-- Own: what the command `generate` leaves.
use Rattle.std.specs.Prelude.{◌≡◌, ℕ, List}
use Rattle.post_spec.specs.Codecs.{Codecs}
use Rattle.car_spec.specs.Codecs as car
use Rattle.pair_plans.specs.Generated.{IsGenerated}
use Rattle.pair_plans.specs.Lines.{generated_line}
use Rattle.pair_talk.specs.Counts.{counts}
use Rattle.pipe_spec.specs.Histories.{Happening}
use Rattle.command_status.specs.declared.status.Status.{Status}
use Rattle.command_status.specs.declared.status.Status.TheVariants as status
use Rattle.command_status.specs.Told.{SinkTold, Writes}
use Rattle.planned_traces.specs.Files.{ComesWith}
use Rattle.pair_command.specs.Printing.{Printed}

-- `sessions N replies R bytes B closed C opened O`, counted of the sessions that are generated of a seed
pub record IsGeneratedLine (c : Codecs) (cc : car.Codecs) (seed count : ℕ) (line : List ℕ) : Type 0 where
  pub history : List Happening
  pub generated : IsGenerated c cc seed count history
  pub line_is : line ≡ generated_line count (counts history)

-- such a line was printed, and, where it could be written, the line of the one history is printed, but for want of memory
pub record GenerateLeaves (c : Codecs) (cc : car.Codecs) (seed count : ℕ) (s : Status) (before after : SinkTold) : Type 0 where
  pub leaves : Printed (IsGeneratedLine c cc seed count) s before after
  pub decided : (line : List ℕ) → after.faults ≡ before.faults → IsGeneratedLine c cc seed count line → ComesWith status.Done (Writes line before after) s
