use Rattle.std.proofs.Common.{◌<◌, ◌^◌, length, ap, ◌∙◌, arith}
use Rattle.exi_spec.proofs.BitLaws.{length-bits_of}
use Rattle.exi_bits.specs.Lent.{Span}
use Rattle.exi_bits.proofs.Spans.{held_scalar, held_bytes}
use Rattle.exi_bits.proofs.span.BitSpan.contents.Goals as goal

pub new-requires-clause-within : goal.new-requires-clause-within
new-requires-clause-within c = omega (arith, length-bits_of c.self.inside.payload.now, c.self.invariant.1.within)

pub returns-clause-few : goal.returns-clause-few
returns-clause-few c = let few : c.self.inside.count < 2 ^ 32 = omega arith in omega (arith, ap length c.new.ensures, c.self.invariant.1.long)

pub returns-clause-characters : goal.returns-clause-characters
returns-clause-characters c is = rw c.new.ensures (held_scalar _ _ c.self.invariant.1 (ap (λ (s : Span). s.is_text) c.self.view_is ∙ is))

pub returns-clause-bytes : goal.returns-clause-bytes
returns-clause-bytes c is = rw c.new.ensures (held_bytes _ _ c.self.invariant.1 (ap (λ (s : Span). s.is_text) c.self.view_is ∙ is))
