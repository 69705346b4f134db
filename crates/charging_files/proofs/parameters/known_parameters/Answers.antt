use Rattle.std.proofs.Common.{arith}
use Rattle.std.proofs.lemmas.Grind.{common_steps}
use Rattle.charging_files.proofs.parameters.known_parameters.Goals as goal

pub loop-item-preserved : goal.loop-item-preserved
loop-item-preserved c = record { number = omega arith; strange = grind (arith, common_steps) }
