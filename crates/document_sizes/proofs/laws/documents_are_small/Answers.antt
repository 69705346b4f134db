use Rattle.document_sizes.proofs.Documents.{document_small, encoding_small, document_fits}
use Rattle.document_sizes.proofs.laws.documents_are_small.Goals as goal

pub returns-clause-bits : goal.returns-clause-bits
returns-clause-bits c w s number tree bits narrow d = document_small w s number tree bits narrow d

pub returns-clause-bytes : goal.returns-clause-bytes
returns-clause-bytes c w s tree payload narrow e = encoding_small w s tree payload narrow e

pub returns-clause-room : goal.returns-clause-room
returns-clause-room c w s number tree bytes narrow light passes = document_fits w s number tree bytes narrow light passes
