use Rattle.text_tokens.proofs.Digits.{read_back}
use Rattle.text_tokens.proofs.values.hex_bytes.Goals as goal

pub returns-in-Ok : goal.returns-in-Ok
returns-in-Ok c = read_back c.args.word.now c.in-Ok.bytes.items (c.is_hex.ensures.0 c.if-not-is_hex.false) c.in-Ok.ensures.ok
