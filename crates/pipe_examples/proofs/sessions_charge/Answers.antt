use Rattle.std.proofs.Common.{refl}
use Rattle.v2gtp_frames.specs.Reading as reading
use Rattle.pipe_examples.proofs.sessions_charge.Goals as goal

pub returns-clause-direct_current : goal.returns-clause-direct_current
unfolding reading.whole_at
returns-clause-direct_current c = refl

pub returns-clause-alternating_current : goal.returns-clause-alternating_current
unfolding reading.whole_at
returns-clause-alternating_current c = refl
