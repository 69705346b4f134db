use Rattle.std.proofs.Common.{length, IsUtf8, ap, arith, rules}
use Rattle.exi_writing.specs.Source.{chars_of}
use Rattle.exi_writing.specs.declared.source.TextSource.{TextSource}
use Rattle.exi_writing.proofs.Strings.{few_bytes}
use Rattle.exi_writing.proofs.source.TextSource.put_chars.Goals as goal

pub put_chars-requires : goal.put_chars-requires
put_chars-requires c =
    let utf8 : IsUtf8 c.in-Written.text.now = search rules in
    omega (arith, few_bytes c.in-Written.text.now utf8, ap (λ (s : TextSource). length (chars_of s)) c.in-Written.is, c.requires)
