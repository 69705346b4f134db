use Rattle.std.proofs.Common.{subst, sym}
use Rattle.audit_watts.specs.Values.{written_of, AreOf}
use Rattle.audit_watts.proofs.Added.{power_told}
use Rattle.audit_watts.proofs.values.WattValues.with_power.Goals as goal

pub returns : goal.returns
returns c plan spoken s none h =
    subst (AreOf plan spoken _ _) (sym c.with.ensures)
    (power_told plan spoken c.args.told s c.args.self (written_of c.args.power) c.watts.result c.writes.result none c.watts.ensures c.writes.ensures h)
