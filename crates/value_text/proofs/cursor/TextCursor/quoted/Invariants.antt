use Rattle.std.proofs.Common.{length}
use Rattle.std.specs.Str.{chars}
use Rattle.std.specs.String.{string_bytes}
use Rattle.value_text.proofs.QuotedTexts.{ReadsText}
use Rattle.value_text.proofs.cursor.TextCursor.quoted.Given as goal

abbrev pub invariant-loop-c : goal.invariant-loop-c
invariant-loop-c l = ReadsText l.self (chars (string_bytes l.text)) l.ahead

abbrev pub decreases-loop-c : goal.decreases-loop-c
decreases-loop-c l = length l.ahead.rest.now
