use Rattle.migrate_command.proofs.Readings.{writable, read_over, refused_over, refused_first}
use Rattle.migrate_command.proofs.reading.refuse_other.Goals as goal

pub returns-then-bytes-gt-LONGEST_TRACE : goal.returns-then-bytes-gt-LONGEST_TRACE
returns-then-bytes-gt-LONGEST_TRACE c =
    let over = c.if-bytes-gt-LONGEST_TRACE.true in
    let plain = read_over c.trace_of.result c.args.bytes.now over c.trace_of.ensures.read in
    record {
      read = plain;
      writable = writable c.trace_of.result c.args.bytes.now plain;
      fault = refused_over c.trace_of.result c.args.bytes.now over c.trace_of.ensures.fault;
    }

pub returns : goal.returns
returns c = record {
  read = tt;
  writable = tt;
  fault = refused_first c.args.bytes.now c.if-bytes-gt-LONGEST_TRACE.false c.requires;
}
