use Rattle.text_tokens.proofs.Digits.{length_hex}
use Rattle.text_tokens.proofs.line.put_word.Goals as goal

pub put_hex-requires-clause-bytes : goal.put_hex-requires-clause-bytes
put_hex-requires-clause-bytes c = let short = c.requires.word in rw (← length_hex c.in-Bytes.bytes.now) (rw c.in-Bytes.is at short)
