use Rattle.payload_commands.proofs.Detailed.{long_fault, tells_service}
use Rattle.payload_commands.proofs.details.service_line.Goals as goal

pub returns-in-Err-Long-clause-fault : goal.returns-in-Err-Long-clause-fault
returns-in-Err-Long-clause-fault c =
    let long = (rw c.in-Err-Long.field-0-is at c.in-Err-Long.ensures.fault) in
    long_fault c.args.id c.args.service.now c.too_long.result long c.too_long.ensures

pub returns-in_ok-line_of-in-Ok-clause-line : goal.returns-in_ok-line_of-in-Ok-clause-line
returns-in_ok-line_of-in-Ok-clause-line c =
    let law = c.payloads_offer_catalogues.ensures in
    let tells = tells_service law.offered law.absent c.args.id c.args.service.now c.in-Ok.payload.items c.in-Ok.ensures.payload in
    (c.in-Ok.payload.items, c.in-Ok.ensures.payload, tells, (rw c.as_slice.ensures.value at c.in_ok-line_of-in-Ok.ensures))
