use Rattle.std.proofs.Common.{◌≡◌, true, ap, arith}
use Rattle.exi_bits.specs.Lent.{Span}
use Rattle.exi_writing.proofs.Values.{lent_text}
use Rattle.exi_tests.proofs.writing.a_lent_text_is_put.Goals as goal

pub put_value-requires-clause-value : goal.put_value-requires-clause-value
put_value-requires-clause-value c =
    let span = c.in-Ok-take_chars.span in
    let kind : span.is_text ≡ true = ap (λ (s : Span). s.is_text) c.in-Ok-take_chars.ensures.span in
    lent_text span 1 kind c.in-Ok-take_chars.ensures.held (omega (arith, c.in-Ok-take_chars.ensures.count))
