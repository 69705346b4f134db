use Rattle.matched_pairs.proofs.Pauses as pauses
use Rattle.matched_pairs.proofs.timing.time_passes_in_pauses.Goals as goal

pub returns : goal.returns
returns g c = pauses.time_passes_in_pauses _ _
