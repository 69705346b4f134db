use Rattle.std.proofs.Common.{subst}
use Rattle.std.specs.declared.option.Option.{Option}
use Rattle.faultless_pasts.specs.Faultless.{told_codecs}
use Rattle.audit_streams.specs.declared.reader.ToldWord.{ToldWord}
use Rattle.audit_streams.specs.Streams.{kept_in}
use Rattle.audit_readings.specs.Saying.{SaysTo}
use Rattle.audit_readings.proofs.Saying.{said_so}
use Rattle.audit_readings.proofs.replies.said.Goals as goal

pub returns : goal.returns
returns g c past h even =
    said_so (told_codecs g.R.Coded.negotiates g.R.Coded.reads g.R.Coded.encodes g.R.ToldCoded.responds g.R.ToldCoded.watts) c.args.plan.now c.args.told past c.args.bytes.now c.spoken-spoken.result (kept_in c.args.stream.now) c.said_to.result
    g.met.R.ToldReader.determined g.met.R.ToldReader.watts_once (c.unanswered.ensures.told c.args.plan.now.dialects.items past h) (c.spoken-spoken.ensures c.args.plan.now.dialects.items past h even)
    (subst (λ (o : Option ToldWord). SaysTo (told_codecs g.R.Coded.negotiates g.R.Coded.reads g.R.Coded.encodes g.R.ToldCoded.responds g.R.ToldCoded.watts) c.args.plan.now c.args.told c.spoken-spoken.result c.args.bytes.now o c.said_to.result) c.unanswered.ensures.value c.said_to.ensures)
