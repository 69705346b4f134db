use Rattle.std.proofs.Common.{sym, subst, Bool}
use Rattle.std.specs.Prelude.{◌↔◌, IsTrue}
use Rattle.post_spec.specs.Codecs.{codecs}
use Rattle.audit_streams.specs.Streams.{kept_in}
use Rattle.audit_readings.specs.Readings.{HasNext}
use Rattle.audit_readings.proofs.Judging.{there_next}
use Rattle.audit_readings.proofs.acts.has_next.Goals as goal

pub returns : goal.returns
returns g c offers past h =
    subst (λ (b : Bool). IsTrue b ↔ HasNext (codecs g.R.Coded.negotiates g.R.Coded.reads g.R.Coded.encodes) offers past) (sym c.is_there.ensures)
    (there_next (codecs g.R.Coded.negotiates g.R.Coded.reads g.R.Coded.encodes) offers past (kept_in c.args.stream.now) c.next.result (c.next.ensures offers past h))
