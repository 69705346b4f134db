use Rattle.exi_documents.specs.Values.{SpellsValue, WritesValue}
use Rattle.document_laws.proofs.Told.{tell_trees}
use Rattle.document_laws.proofs.laws.events_tell_trees.Goals as goal

pub returns-clause-spelled : goal.returns-clause-spelled
returns-clause-spelled c s = tell_trees SpellsValue s

pub returns-clause-written : goal.returns-clause-written
returns-clause-written c s = tell_trees WritesValue s
