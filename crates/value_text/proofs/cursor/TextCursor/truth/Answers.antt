use Rattle.value_text.proofs.ValueForms.{truth_word, no_truth_word}
use Rattle.value_text.proofs.cursor.TextCursor.truth.Goals as goal

pub returns-in-Ok-clause-taken : goal.returns-in-Ok-clause-taken
returns-in-Ok-clause-taken c = truth_word c.args.self.now c.in-Ok.behind c.in-Ok.i c.in-Ok.ensures.taken

pub returns-in-Err-clause-fault : goal.returns-in-Err-clause-fault
returns-in-Err-clause-fault c = no_truth_word c.args.self.now c.in-Err.place c.in-Err.ensures.fault
