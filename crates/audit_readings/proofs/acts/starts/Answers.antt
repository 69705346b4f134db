use Rattle.std.proofs.Common.{ap, sym, subst, ◌∙◌, Bool}
use Rattle.std.specs.Prelude.{◌↔◌, IsTrue}
use Rattle.told_pasts.specs.Steps.{seen_in}
use Rattle.faultless_pasts.specs.Faultless.{told_codecs}
use Rattle.audit_mandates.specs.Values.{Starts}
use Rattle.audit_streams.specs.Streams.{kept_in}
use Rattle.audit_readings.specs.Readings.{is_start}
use Rattle.audit_readings.proofs.Judging.{start_told}
use Rattle.audit_readings.proofs.acts.starts.Goals as goal

pub returns : goal.returns
returns g c plan steps h =
    subst (λ (b : Bool). IsTrue b ↔ Starts (told_codecs g.R.Coded.negotiates g.R.Coded.reads g.R.Coded.encodes g.R.ToldCoded.responds g.R.ToldCoded.watts) plan steps)
    (sym (c.is_start.ensures ∙ ap is_start c.unanswered.ensures.value))
    (start_told (told_codecs g.R.Coded.negotiates g.R.Coded.reads g.R.Coded.encodes g.R.ToldCoded.responds g.R.ToldCoded.watts) plan steps (kept_in c.args.stream.now)
    (c.unanswered.ensures.told plan.dialects.items (seen_in steps) h))
