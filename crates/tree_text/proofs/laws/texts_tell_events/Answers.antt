use Rattle.exi_documents.specs.Values.{SpellsValue, WritesValue}
use Rattle.tree_text.proofs.Spelled.{tree_told, spelled_told, spelled_has_text}
use Rattle.tree_text.proofs.Told.{has_text, has_written_text}
use Rattle.tree_text.proofs.laws.texts_tell_events.Goals as goal

pub returns-clause-reached : goal.returns-clause-reached
returns-clause-reached c s number tree text bits state is h = tree_told SpellsValue s (has_text s) number tree text bits state is h

pub returns-clause-spelled : goal.returns-clause-spelled
returns-clause-spelled c s number tree text bits is d = spelled_told SpellsValue s (has_text s) number tree text bits is d

pub returns-clause-written : goal.returns-clause-written
returns-clause-written c s number tree text bits is d = spelled_told WritesValue s (has_written_text s) number tree text bits is d

pub returns-clause-has_text : goal.returns-clause-has_text
returns-clause-has_text c s number tree bits d = spelled_has_text SpellsValue s (has_text s) number tree bits d
