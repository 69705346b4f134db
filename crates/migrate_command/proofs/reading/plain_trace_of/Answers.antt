use Rattle.migrate_command.proofs.Readings.{read, refused, writable}
use Rattle.migrate_command.proofs.reading.plain_trace_of.Goals as goal

pub returns-in-Some : goal.returns-in-Some
returns-in-Some c =
    let plain = read c.trace_of.result c.args.bytes.now c.in-Some.field-0.now c.in-Some.ensures c.trace_of.ensures.read in
    record {
      read = plain;
      writable = writable c.trace_of.result c.args.bytes.now plain;
      fault = refused c.trace_of.result c.args.bytes.now c.in-Some.field-0.now c.in-Some.ensures c.trace_of.ensures.fault;
    }
