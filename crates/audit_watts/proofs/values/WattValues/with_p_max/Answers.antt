use Rattle.std.proofs.Common.{subst, sym}
use Rattle.audit_watts.specs.Values.{written_of, AreOf}
use Rattle.audit_watts.proofs.Added.{p_max_told}
use Rattle.audit_watts.proofs.values.WattValues.with_p_max.Goals as goal

pub returns : goal.returns
returns c plan s h =
    subst (AreOf plan c.args.spoken _ _) (sym c.with.ensures)
    (p_max_told plan c.args.spoken c.args.told s c.args.self (written_of c.args.p_max) c.watts.result c.writes_schedule.result c.watts.ensures c.writes_schedule.ensures h)
