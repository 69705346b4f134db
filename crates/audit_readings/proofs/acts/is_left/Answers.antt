use Rattle.std.proofs.Common.{sym, subst, Bool, ◌∷◌}
use Rattle.std.specs.Prelude.{◌↔◌, IsTrue}
use Rattle.post_spec.specs.Codecs.{codecs}
use Rattle.told_pasts.specs.Checks.{EndsBlock}
use Rattle.told_pasts.specs.Steps.{seen_in}
use Rattle.faultless_pasts.specs.Faultless.{told_codecs}
use Rattle.audit_readings.specs.Readings.{HasNext, IsLeft}
use Rattle.audit_readings.proofs.Judging.{both_hold}
use Rattle.audit_readings.proofs.acts.is_left.Goals as goal

pub returns : goal.returns
returns g c plan steps e behind earlier h ends =
    subst (λ (b : Bool). IsTrue b ↔ IsLeft (told_codecs g.R.Coded.negotiates g.R.Coded.reads g.R.Coded.encodes g.R.ToldCoded.responds g.R.ToldCoded.watts) plan steps e behind earlier) (sym c.both.ensures)
    (both_hold c.args.ends c.has_next.result (EndsBlock behind (e ∷ earlier)) (HasNext (codecs g.R.Coded.negotiates g.R.Coded.reads g.R.Coded.encodes) plan.dialects.items (seen_in steps)) ends
    (c.has_next.ensures plan.dialects.items (seen_in steps) h))
