use Rattle.audit_watts.specs.Values.{written_of}
use Rattle.audit_watts.proofs.Written.{writes_told}
use Rattle.audit_watts.proofs.values.WrittenValue.writes.Goals as goal

pub returns : goal.returns
returns c =
    writes_told c.args.told c.written_watts-written.result.multiplier c.written_watts-written.result.value c.is.result (written_of c.args.self)
    c.written_watts-written.ensures.written c.is.ensures
