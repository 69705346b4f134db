use Rattle.value_text.proofs.Numerals.{ReadsSoFar}
use Rattle.value_text.proofs.cursor.TextCursor.positive.Given as goal

abbrev pub invariant-loop-count : goal.invariant-loop-count
invariant-loop-count l = ReadsSoFar l.self l.number l._count l.ahead
