use Rattle.app_protocol.proofs.Scanned.{scanned_apart}
use Rattle.app_protocol.proofs.laws.payloads_and_faults.Goals as goal

pub returns : goal.returns
returns c = scanned_apart
