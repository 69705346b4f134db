use Rattle.std.proofs.Common.{sym, ◌∙◌}
use Rattle.service_spec.proofs.Digits.{plain_bad, plain_read}
use Rattle.service_spec.proofs.numbers.positive_of.Goals as goal

pub returns-then-is_numeral : goal.returns-then-is_numeral
returns-then-is_numeral c = plain_read c.args.text.now c.parsed.result c.requires (sym c.is_numeral.ensures ∙ c.if-is_numeral.true) c.parsed.ensures.plain

pub returns-else-is_numeral : goal.returns-else-is_numeral
returns-else-is_numeral c = plain_bad c.args.text.now c.requires (sym c.is_numeral.ensures ∙ c.if-is_numeral.false)
