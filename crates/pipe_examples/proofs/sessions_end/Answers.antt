use Rattle.std.proofs.Common.{refl}
use Rattle.v2gtp_frames.specs.Reading as reading
use Rattle.pipe_examples.proofs.sessions_end.Goals as goal

pub returns-clause-too_low : goal.returns-clause-too_low
unfolding reading.whole_at
returns-clause-too_low c = refl

pub returns-clause-no_dialect : goal.returns-clause-no_dialect
unfolding reading.whole_at
returns-clause-no_dialect c = refl
