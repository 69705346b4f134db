use Rattle.std.proofs.Common.{length}
use Rattle.v2gtp_frames.specs.Taking.{Takes}
use Rattle.v2gtp_frames.proofs.splitting.take_frames.Given as goal

abbrev pub invariant-loop-fault : goal.invariant-loop-fault
invariant-loop-fault l = Takes l.initial.reader l.reader l.initial.payloads.items l.payloads.items

abbrev pub decreases-loop-fault : goal.decreases-loop-fault
decreases-loop-fault l = length l.reader
