use Rattle.std.proofs.Common.{◌≡◌, length, chars, ap, arith, rules}
use Rattle.std.proofs.lemmas.Str.{chars_from_encodes}
use Rattle.exi_writing.specs.Source.{chars_of}
use Rattle.exi_writing.specs.declared.source.TextSource.{TextSource}
use Rattle.exi_writing.proofs.source.TextSource.len.Goals as goal

pub overflow_cast-result : goal.overflow_cast-result
overflow_cast-result c =
    let count : c.count.result ≡ length (chars c.in-Written.text.now) = search (rules, chars_from_encodes) in
    omega (arith, count, ap (λ (s : TextSource). length (chars_of s)) c.in-Written.is, c.requires)

pub returns-in-Written : goal.returns-in-Written
returns-in-Written c = search (rules, chars_from_encodes)
