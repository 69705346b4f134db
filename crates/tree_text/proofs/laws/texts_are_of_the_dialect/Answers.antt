use Rattle.exi_documents.specs.Grammar.{Behind, stands}
use Rattle.exi_documents.specs.Values.{WritesValue}
use Rattle.document_laws.proofs.Runs.{document_tells}
use Rattle.tree_text.proofs.Sayings.{told_said, encoded_said, said_tree}
use Rattle.tree_text.proofs.Shortness.{written_form}
use Rattle.tree_text.proofs.laws.texts_are_of_the_dialect.Goals as goal

pub returns-clause-says : goal.returns-clause-says
returns-clause-says c s events text state consistent h =
    let said = told_said WritesValue s consistent (written_form s) events state text h in (said.ahead, said.standing, said.says)

pub returns-clause-whole : goal.returns-clause-whole
returns-clause-whole c s tree payload text consistent e is = (e.number, encoded_said s consistent e.number tree text e.bits is e.spelled)

pub returns-clause-tree : goal.returns-clause-tree
returns-clause-tree c s number tree text bits consistent d is =
    let reaches = document_tells WritesValue s number tree bits d in
    said_tree WritesValue s consistent number tree bits (stands Behind reaches.0) text reaches.1 is
