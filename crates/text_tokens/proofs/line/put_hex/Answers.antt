use Rattle.std.proofs.Common.{refl, arith}
use Rattle.text_tokens.proofs.Digits.{length_hex}
use Rattle.text_tokens.proofs.line.put_hex.Goals as goal

pub returns-else-end-room : goal.returns-else-end-room
returns-else-end-room c = record { same = refl; count = omega (arith, length_hex c.args.bytes.now); room = λ h. absurd (omega arith) }
