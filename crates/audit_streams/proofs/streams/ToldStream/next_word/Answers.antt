use Rattle.std.proofs.Common.{sym, ap, ◌∙◌}
use Rattle.std.specs.Option.{option_map}
use Rattle.audit_streams.proofs.Told.{none_next}
use Rattle.audit_streams.proofs.streams.ToldStream.next_word.Goals as goal

pub returns-in-None : goal.returns-in-None
returns-in-None g c past h =
    none_next _ c.args.plan.now.dialects.items past c.args.self.now g.met.R.ToldReader.judges_first g.met.R.ToldReader.judges_later h
    (sym c.unanswered.ensures.value ∙ ap (option_map (λ word. word.now)) c.in-None.is)

pub returns-in-Some : goal.returns-in-Some
returns-in-Some g c past h = c.word_at.ensures past h (sym c.unanswered.ensures.value ∙ ap (option_map (λ word. word.now)) c.in-Some.is)
