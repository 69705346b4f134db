use Rattle.value_text.proofs.PieceTexts.{braced_ok, braced_wrong, no_brace_first}
use Rattle.value_text.proofs.cursor.TextCursor.braced.Goals as goal

pub returns-then-take_char-clause-taken : goal.returns-then-take_char-clause-taken
returns-then-take_char-clause-taken c = braced_ok c.args.self.now c.take_char.new.self c.numbered.result c.if-take_char.ensures c.numbered.ensures.taken

pub returns-then-take_char-clause-fault : goal.returns-then-take_char-clause-fault
returns-then-take_char-clause-fault c = braced_wrong c.args.self.now c.take_char.new.self c.numbered.result c.if-take_char.ensures c.numbered.ensures.fault

pub returns-clause-fault : goal.returns-clause-fault
returns-clause-fault c = no_brace_first c.args.self.now c.take_char.new.self c.if-take_char.ensures.0 c.if-take_char.ensures.1
