use Rattle.std.proofs.Common.{length, IsUtf8, ap, arith, rules}
use Rattle.exi_writing.specs.Source.{chars_of}
use Rattle.exi_writing.specs.declared.source.TextSource.{TextSource}
use Rattle.exi_writing.proofs.Strings.{few_bytes}
use Rattle.exi_writing.proofs.source.TextSource.chars_bits.Goals as goal

pub chars_bits-requires-in-Written : goal.chars_bits-requires-in-Written
chars_bits-requires-in-Written c =
    let utf8 : IsUtf8 c.in-Written.text.now = search rules in
    omega (arith, few_bytes c.in-Written.text.now utf8, ap (λ (s : TextSource). length (chars_of s)) c.in-Written.is, c.requires)

pub returns-in-Written-clause-few : goal.returns-in-Written-clause-few
returns-in-Written-clause-few c =
    let utf8 : IsUtf8 c.in-Written.text.now = search rules in
    omega (arith, few_bytes c.in-Written.text.now utf8, ap (λ (s : TextSource). length (chars_of s)) c.in-Written.is, c.requires, c.chars_bits-in-Written.ensures.few)
