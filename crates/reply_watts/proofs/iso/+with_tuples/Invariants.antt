use Rattle.std.proofs.Common.{length}
use Rattle.reply_watts.proofs.iso.+with_tuples.Given as goal

abbrev pub decreases-with_tuples : goal.decreases-with_tuples
decreases-with_tuples l = length l.tuples.now
