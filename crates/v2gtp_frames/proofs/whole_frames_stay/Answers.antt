use Rattle.v2gtp_frames.proofs.Growing.{whole_stays}
use Rattle.v2gtp_frames.proofs.whole_frames_stay.Goals as goal

pub returns : goal.returns
returns c = whole_stays
