use Rattle.std.proofs.Common.{map}
use Rattle.value_text.specs.Forms.{IsBest}
use Rattle.value_text.proofs.cursor.TextCursor.word.Given as goal

abbrev pub invariant-loop-i : goal.invariant-loop-i
invariant-loop-i l = IsBest (map (λ t. t.now) l.words) l.i l.self.rest.now l.best.count l.best.whole
