use Rattle.std.proofs.Common.{refl, arith}
use Rattle.text_tokens.proofs.Digits.{identifier_of, no_identifier}
use Rattle.text_tokens.proofs.values.identifier.Goals as goal

pub returns-in-Ok : goal.returns-in-Ok
returns-in-Ok c =
    (omega arith, rw c.from_be_bytes.ensures (identifier_of c.args.word.now c.decode_to_slice.new.out (c.is_hex.ensures.0 c.if-not-is_hex.false) c.in-Ok.ensures.value))

pub returns-in-Err : goal.returns-in-Err
returns-in-Err c = (refl, λ n small spells. no_identifier c.args.word.now _ _ n c.in-Err.ensures.value small spells)
