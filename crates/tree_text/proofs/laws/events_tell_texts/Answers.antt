use Rattle.exi_documents.specs.Values.{SpellsValue, WritesValue}
use Rattle.tree_text.proofs.Tied.{document_told}
use Rattle.tree_text.proofs.laws.events_tell_texts.Goals as goal

pub returns-clause-spelled : goal.returns-clause-spelled
returns-clause-spelled c s number tree text state h = document_told SpellsValue s number tree text state h

pub returns-clause-written : goal.returns-clause-written
returns-clause-written c s number tree text state h = document_told WritesValue s number tree text state h
