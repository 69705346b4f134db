use Rattle.std.proofs.Common.{◌≡◌, length, chars, IsUtf8, ap, rules}
use Rattle.std.proofs.lemmas.Str.{chars_from_encodes}
use Rattle.exi_bits.specs.declared.span.SpanAt.{SpanAt}
use Rattle.exi_events.proofs.Bounds.{bytes_decides, text_decides, written_decides}
use Rattle.exi_events.proofs.value.is_value.Goals as goal

pub returns-in-Binary-datatype : goal.returns-in-Binary-datatype
returns-in-Binary-datatype c =
    bytes_decides c.args.datatype c.args.value.now c.in-Binary.span c.in-Binary-datatype.most _ c.in-Binary-datatype.is c.in-Binary.is c.requires c.at.ensures.spelled (ap (λ (at : SpanAt). at.chars) c.at.ensures.at)

pub returns-in-Text-datatype : goal.returns-in-Text-datatype
returns-in-Text-datatype c =
    text_decides c.args.datatype c.args.value.now c.in-Text.span c.in-Text-datatype.most _ c.in-Text-datatype.is c.in-Text.is c.requires c.at-in-Text-datatype.ensures.spelled (ap (λ (at : SpanAt). at.chars) c.at-in-Text-datatype.ensures.at)

pub returns-in-Text-datatype-2 : goal.returns-in-Text-datatype-2
returns-in-Text-datatype-2 c =
    let utf8 : IsUtf8 c.in-Written.text.now = search rules in
    let count : c.count.result ≡ length (chars c.in-Written.text.now) = search (rules, chars_from_encodes) in
    written_decides c.args.datatype c.args.value.now c.in-Written.text c.in-Text-datatype-2.most c.count.result c.in-Text-datatype-2.is c.in-Written.is utf8 count
