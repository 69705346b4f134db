use Rattle.std.proofs.Common.{take}
use Rattle.text_tokens.specs.Words.{spaced_out, texts_of, Puts}
use Rattle.text_tokens.proofs.line.put_line.Given as goal

abbrev pub invariant-loop-word : goal.invariant-loop-word
invariant-loop-word l = Puts l.initial.room 0 l.room l.at (spaced_out (texts_of (take l.word-index l.words)))
