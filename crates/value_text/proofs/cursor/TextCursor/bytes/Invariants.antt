use Rattle.std.proofs.Common.{length}
use Rattle.value_text.proofs.HexTexts.{ReadsBytes}
use Rattle.value_text.proofs.cursor.TextCursor.bytes.Given as goal

abbrev pub invariant-loop-high : goal.invariant-loop-high
invariant-loop-high l = ReadsBytes l.self l.bytes.items l.ahead

abbrev pub decreases-loop-high : goal.decreases-loop-high
decreases-loop-high l = length l.ahead.rest.now
