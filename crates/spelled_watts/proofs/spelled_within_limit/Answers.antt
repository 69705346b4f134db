use Rattle.spelled_watts.proofs.Fronts.{fronts_spell_within}
use Rattle.spelled_watts.proofs.Within.{runs_spell_within}
use Rattle.spelled_watts.proofs.spelled_within_limit.Goals as goal

pub returns : goal.returns
returns g c = record { runs = runs_spell_within _; fronts = fronts_spell_within _ }
