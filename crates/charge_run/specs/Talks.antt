-- Own: what `talk` leaves, of the codecs of the program's station and car.
use Rattle.std.specs.Prelude.{ℕ}
use Rattle.command_status.specs.declared.status.Status.{Status}
use Rattle.command_status.specs.Told.{SinkTold}
use Rattle.matched_pairs.specs.PipeRuns.{AreFit}
use Rattle.pair_command.specs.Files.{PlansTold}
use Rattle.pair_command.specs.Leaving.{TalkLeaves}
use Rattle.charge_run.specs.Runs.{site_codecs, car_codecs}

-- the codecs fit, so that plans that go together end well
pub record Talks (tells : Type 0) (seed : ℕ) (s : Status) (files : PlansTold) (before after : SinkTold) : Type 0 where
  pub leaves : TalkLeaves site_codecs car_codecs tells seed s files before after
  pub fit : AreFit site_codecs car_codecs
