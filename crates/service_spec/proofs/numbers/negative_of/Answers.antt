use Rattle.std.proofs.Common.{sym, ◌∙◌}
use Rattle.service_spec.proofs.Digits.{minus_bad, minus_read}
use Rattle.service_spec.proofs.numbers.negative_of.Goals as goal

pub returns-then-not-is_numeral : goal.returns-then-not-is_numeral
returns-then-not-is_numeral c = minus_bad c.args.text.now c.args.digits.now c.requires (sym c.is_numeral.ensures ∙ c.if-not-is_numeral.true)

pub returns-then-number-lt0 : goal.returns-then-number-lt0
returns-then-number-lt0 c =
    minus_read c.args.text.now c.args.digits.now c.in_ok-number.number c.requires (sym c.is_numeral.ensures ∙ c.if-not-is_numeral.false)
    (c.in_ok-number.ensures.minus c.args.digits.now c.requires) c.if-number-lt0.true
