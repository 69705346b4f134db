use Rattle.std.proofs.Common.{refl}
use Rattle.value_text.specs.Forms.{is_lower_digit}
use Rattle.value_text.proofs.NextLaws.{none_at}
use Rattle.value_text.proofs.cursor.TextCursor.hex_digit.Goals as goal

pub returns-in_default : goal.returns-in_default
returns-in_default c = (refl, none_at is_lower_digit _ _ c.in_ok-c.c c.in_ok-c.ensures.passes.stands c.in_default.ensures)
