use Rattle.app_protocol.proofs.Encodings as encodings
use Rattle.app_protocol.proofs.laws.one_encoding.Goals as goal

pub returns : goal.returns
returns c m payload other bytes more a b = encodings.one_encoding m payload other bytes more a b
