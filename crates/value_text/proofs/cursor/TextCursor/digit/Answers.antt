use Rattle.std.proofs.Common.{refl, rules}
use Rattle.std.specs.Char.{is_ascii_digit}
use Rattle.value_text.proofs.NextLaws.{none_at}
use Rattle.value_text.proofs.cursor.TextCursor.digit.Goals as goal

pub returns-then-not-is_ascii_digit : goal.returns-then-not-is_ascii_digit
returns-then-not-is_ascii_digit c = (refl, none_at is_ascii_digit _ _ c.in_ok-c.c c.in_ok-c.ensures.passes.stands (search rules))
