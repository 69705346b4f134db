use Rattle.std.proofs.Common.{refl, suc}
use Rattle.audit_streams.proofs.Taken.{kept_answered}
use Rattle.audit_streams.proofs.streams.WordStream.answer.Goals as goal

pub returns : goal.returns
returns g c bytes count k = c.look.ensures bytes (suc count) (kept_answered _ c.args.offers.now bytes count c.args.self.now c.requires k) refl
