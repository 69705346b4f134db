use Rattle.payload_commands.proofs.Detailed.{lined, unlined}
use Rattle.payload_commands.proofs.details.detail_of.Goals as goal

pub returns-clause-line : goal.returns-clause-line
returns-clause-line c =
    lined c.args.id c.args.text.now c.in_ok-service.service c.service_line.result c.in_ok-service.ensures.offered
    (_, c.in_ok-table.ensures, c.in_ok-service.ensures.told, c.in_ok-service.ensures.said) c.service_line.ensures.line

pub returns-clause-fault : goal.returns-clause-fault
returns-clause-fault c =
    unlined c.args.id c.args.text.now c.in_ok-service.service c.service_line.result
    (_, c.in_ok-table.ensures, c.in_ok-service.ensures.told, c.in_ok-service.ensures.said) c.service_line.ensures.fault
