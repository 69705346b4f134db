use Rattle.document_laws.proofs.Payloads.{payload_decided}
use Rattle.document_laws.proofs.laws.each_payload.Goals as goal

pub returns : goal.returns
returns c s payload = payload_decided s payload
