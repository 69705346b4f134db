use Rattle.std.proofs.Common.{subst, List}
use Rattle.charge_world.specs.declared.offer.Dialect.{Dialect}
use Rattle.post_spec.specs.Codecs.{codecs}
use Rattle.audit_streams.specs.Streams.{IsBehindWord}
use Rattle.audit_streams.proofs.Told.{kept_word, behind_word}
use Rattle.audit_streams.proofs.streams.ToldStream.word_at.Goals as goal

pub returns-then-self : goal.returns-then-self
returns-then-self g c past h e =
    let own = codecs g.R.Coded.negotiates g.R.Coded.reads g.R.Coded.encodes in
    let is = subst (λ (offers : List Dialect). IsBehindWord own offers c.args.self.now.words c.word_behind.result) c.as_slice.ensures.value c.word_behind.ensures.word in
    behind_word own c.args.plan.now.dialects.items past c.args.self.now c.args.word.now c.word_behind.result g.met.R.ToldReader.determined g.met.R.ToldReader.judges_first g.met.R.ToldReader.judges_later c.word_behind.ensures.bytes h e c.if-self.true is

pub returns-else-self : goal.returns-else-self
returns-else-self g c past h e =
    rw c.copied.ensures (kept_word _ c.args.plan.now.dialects.items past c.args.self.now c.args.word.now g.met.R.ToldReader.judges_first g.met.R.ToldReader.judges_later h e c.if-self.false)
