use Rattle.std.proofs.Common.{sym, ◌∙◌}
use Rattle.word_values.proofs.TextLemmas.{evse_same, evse_none}
use Rattle.word_values.proofs.items.written_text.Goals as goal

pub returns-in-Some : goal.returns-in-Some
returns-in-Some c = c.in-Some.ensures.1 ∙ sym (evse_same c.args.text.now c.utf8.text c.in-Some.ensures.0.1)

pub returns-in-None : goal.returns-in-None
returns-in-None c = c.default.ensures ∙ sym (evse_none c.args.text.now c.utf8.text c.in-None.ensures)
