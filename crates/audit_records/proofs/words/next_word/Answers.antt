use Rattle.std.proofs.Common.{subst, Option}
use Rattle.post_spec.specs.Codecs.{codecs}
use Rattle.told_pasts.specs.Steps.{seen_in}
use Rattle.faultless_pasts.specs.Faultless.{told_codecs}
use Rattle.audit_streams.specs.declared.reader.ToldWord.{ToldWord}
use Rattle.audit_streams.specs.Streams.{TellsWord}
use Rattle.audit_records.proofs.Told.{none_next, one_next}
use Rattle.audit_records.proofs.words.next_word.Goals as goal

pub returns-in-None : goal.returns-in-None
returns-in-None g c steps h =
    let own = codecs g.R.Coded.negotiates g.R.Coded.reads g.R.Coded.encodes in
    let all = told_codecs g.R.Coded.negotiates g.R.Coded.reads g.R.Coded.encodes g.R.ToldCoded.responds g.R.ToldCoded.watts in
    none_next all c.args.plan.now steps (subst (λ (o : Option ToldWord). TellsWord own c.args.plan.now.dialects.items (seen_in steps) o) c.in-None.is (c.next_word.ensures (seen_in steps) h))

pub returns-in-Some : goal.returns-in-Some
returns-in-Some g c steps h =
    let own = codecs g.R.Coded.negotiates g.R.Coded.reads g.R.Coded.encodes in
    let all = told_codecs g.R.Coded.negotiates g.R.Coded.reads g.R.Coded.encodes g.R.ToldCoded.responds g.R.ToldCoded.watts in
    one_next all c.args.plan.now steps c.in-Some.word c.word_told.result c.word_told.ensures
    (subst (λ (o : Option ToldWord). TellsWord own c.args.plan.now.dialects.items (seen_in steps) o) c.in-Some.is (c.next_word.ensures (seen_in steps) h))
