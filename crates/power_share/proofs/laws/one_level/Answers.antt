use Rattle.power_share.proofs.Levels.{level_exists, level_unique}
use Rattle.power_share.proofs.laws.one_level.Goals as goal

pub returns : goal.returns
returns c = record { some = level_exists; one = level_unique }
