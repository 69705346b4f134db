use Rattle.v2gtp_frames.proofs.Pieces.{starts_read}
use Rattle.audit_streams.proofs.Taken.{kept_none}
use Rattle.std.proofs.Common.{refl}
use Rattle.audit_streams.proofs.streams.WordStream.clear.Goals as goal

pub returns-clause-bare : goal.returns-clause-bare
returns-clause-bare g c = starts_read _ c.clear.ensures

pub returns-clause-kept : goal.returns-clause-kept
returns-clause-kept g c offers = kept_none _ offers _ refl refl c.clear.ensures
