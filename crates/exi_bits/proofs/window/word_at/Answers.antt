use Rattle.std.proofs.Common.{◌≡◌, ap, length, take, drop, arith, ◌∙◌, rules}
use Rattle.exi_bits.proofs.Held.{word_spelled}
use Rattle.exi_bits.proofs.window.word_at.Goals as goal

pub returns-in-Ok-clause-spelled : goal.returns-in-Ok-clause-spelled
returns-in-Ok-clause-spelled c =
    let front : c.in_ok-front.front.now ≡ take 8 (drop c.args.first c.args.payload.now) = search rules in
    word_spelled c.args.payload.now c.in-Ok.bytes.now c.args.first c.from_be_bytes.result (λ i. omega (arith, c.type_inv.payload i)) (c.in-Ok.ensures.1.same ∙ front) (ap length c.in-Ok.ensures.1.same ∙ c.in-Ok.ensures.1.long) c.from_be_bytes.ensures
