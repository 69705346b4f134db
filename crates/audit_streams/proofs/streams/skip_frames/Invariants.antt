use Rattle.std.proofs.Common.{length}
use Rattle.audit_streams.specs.Streams.{Skips}
use Rattle.audit_streams.proofs.streams.skip_frames.Given as goal

abbrev pub invariant-loop-unread : goal.invariant-loop-unread
invariant-loop-unread l = Skips l.initial.unread l.unread

abbrev pub decreases-loop-unread : goal.decreases-loop-unread
decreases-loop-unread l = length l.unread
