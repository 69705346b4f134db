use Rattle.matched_pairs.proofs.Stopping as stopping
use Rattle.matched_pairs.proofs.going.sessions_stop.Goals as goal

pub returns : goal.returns
returns g c = stopping.sessions_stop _ _
