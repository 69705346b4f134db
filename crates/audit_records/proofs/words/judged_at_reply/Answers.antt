use Rattle.std.proofs.Common.{subst, Option, ap, refl}
use Rattle.std.specs.Option.{option_map}
use Rattle.post_spec.specs.Steps.{Send}
use Rattle.faultless_pasts.specs.Faultless.{told_codecs}
use Rattle.audit_streams.specs.declared.reader.ToldWord.{ToldWord}
use Rattle.audit_readings.specs.Readings.{JudgesSo}
use Rattle.audit_records.proofs.Told.{one_judged}
use Rattle.audit_records.proofs.words.judged_at_reply.Goals as goal

pub returns-in-None : goal.returns-in-None
returns-in-None g c plan steps bytes h m =
    let all = told_codecs g.R.Coded.negotiates g.R.Coded.reads g.R.Coded.encodes g.R.ToldCoded.responds g.R.ToldCoded.watts in
    subst (λ (o : Option ToldWord). JudgesSo all plan steps (Send bytes) o) (ap (option_map (λ word. word.now)) c.in-None.is)
    (c.judged_by.ensures plan steps (Send bytes) h m.0.judged_is (λ is. tt, λ is. refl))

pub returns-in-Some : goal.returns-in-Some
returns-in-Some g c plan steps bytes h m =
    let all = told_codecs g.R.Coded.negotiates g.R.Coded.reads g.R.Coded.encodes g.R.ToldCoded.responds g.R.ToldCoded.watts in
    one_judged all plan steps (Send bytes) c.in-Some.word.now c.word_told.result c.word_told.ensures
    (subst (λ (o : Option ToldWord). JudgesSo all plan steps (Send bytes) o) (ap (option_map (λ word. word.now)) c.in-Some.is)
    (c.judged_by.ensures plan steps (Send bytes) h m.0.judged_is (λ is. tt, λ is. refl)))
