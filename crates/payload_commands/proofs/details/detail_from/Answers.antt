use Rattle.payload_commands.proofs.Detailed.{from_bytes, fault_from_bytes}
use Rattle.payload_commands.proofs.details.detail_from.Goals as goal

pub returns-clause-line : goal.returns-clause-line
returns-clause-line c = from_bytes c.args.id c.args.bytes.now c.detail_of.result c.detail_of.ensures.line

pub returns-clause-fault : goal.returns-clause-fault
returns-clause-fault c = fault_from_bytes c.args.id c.args.bytes.now c.detail_of.result c.detail_of.ensures.fault
