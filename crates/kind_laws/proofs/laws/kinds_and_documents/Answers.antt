use Rattle.kind_laws.proofs.Documents.{encoded_exactly, spelled_exactly, told_exactly}
use Rattle.kind_laws.proofs.laws.kinds_and_documents.Goals as goal

pub returns-clause-encoded : goal.returns-clause-encoded
returns-clause-encoded c s tree = encoded_exactly s tree

pub returns-clause-spelled : goal.returns-clause-spelled
returns-clause-spelled c s tree = spelled_exactly s tree

pub returns-clause-told : goal.returns-clause-told
returns-clause-told c s tree = told_exactly s tree
