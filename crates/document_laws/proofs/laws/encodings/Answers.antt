use Rattle.document_laws.proofs.Written.{value_spelled, value_once}
use Rattle.exi_documents.specs.Values.{WritesValue}
use Rattle.document_laws.proofs.Once.{moves_once}
use Rattle.document_laws.proofs.Encodings.{event_spelled, document_spelled, encoding_spelled, one_encoding}
use Rattle.document_laws.proofs.laws.encodings.Goals as goal

pub returns-clause-value : goal.returns-clause-value
returns-clause-value c d entries name v fits = value_spelled d entries name v fits

pub returns-clause-value_once : goal.returns-clause-value_once
returns-clause-value_once c = value_once

pub returns-clause-event : goal.returns-clause-event
returns-clause-event c s old new event bits m = event_spelled s old new event bits m

pub returns-clause-document : goal.returns-clause-document
returns-clause-document c s number tree bits d = document_spelled s number tree bits d

pub returns-clause-event_once : goal.returns-clause-event_once
returns-clause-event_once c s old new other event a b is p q = moves_once WritesValue value_once s old event a b new other is p q

pub returns-clause-spelled : goal.returns-clause-spelled
returns-clause-spelled c s tree payload e = encoding_spelled s tree payload e

pub returns-clause-once : goal.returns-clause-once
returns-clause-once c s = one_encoding s
