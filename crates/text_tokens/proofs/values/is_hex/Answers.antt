use Rattle.std.proofs.Common.{sym, ap, ◌∙◌, length, arith}
use Rattle.std.specs.List.{list_all}
use Rattle.std.proofs.lemmas.Bool.{eqb-true}
use Rattle.text_tokens.specs.Words.{is_lower_digit}
use Rattle.text_tokens.proofs.Digits.{spelled, digits, length_hex}
use Rattle.text_tokens.proofs.values.is_hex.Goals as goal

pub returns-then-word-eq0 : goal.returns-then-word-eq0
returns-then-word-eq0 c =
    (λ all. spelled c.args.word.now (sym c.all_digits.ensures ∙ all) c.if-word-eq0.true, λ is. c.all_digits.ensures ∙ ap (list_all is_lower_digit) is.2 ∙ digits is.0 is.1)

pub returns-else-word-eq0 : goal.returns-else-word-eq0
returns-else-word-eq0 c =
    (λ even. absurd (c.if-word-eq0.false (eqb-true _ _ even)), λ is. absurd (let twice = ap length is.2 ∙ length_hex is.0 in omega (arith, twice, c.if-word-eq0.false)))
