use Rattle.std.proofs.Common.{refl, arith}
use Rattle.std.specs.Prelude.{◌==◌}
use Rattle.std.proofs.lemmas.Bool.Decides.{nat_tests}
use Rattle.value_text.proofs.NextLaws.{none_at, none_at_end}
use Rattle.value_text.proofs.cursor.TextCursor.take_char.Goals as goal

pub returns-in_default : goal.returns-in_default
returns-in_default c = (refl, none_at_end (λ d. d == c.args.c) _ c.in_default.ensures.passes.0)

pub returns-then-next-c : goal.returns-then-next-c
returns-then-next-c c = let differs = c.if-next-c.true in (refl, none_at (λ d. d == c.args.c) _ _ c.in-Some.next c.in-Some.ensures.passes.stands (grind (arith, nat_tests)))
