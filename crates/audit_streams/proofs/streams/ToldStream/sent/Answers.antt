use Rattle.std.proofs.Common.{refl, sym, ◌∙◌}
use Rattle.audit_streams.proofs.Past.{none_of, answered_with, unasked_of, kept_asked}
use Rattle.audit_streams.proofs.streams.ToldStream.sent.Goals as goal

pub returns-then-is_some-clause-past : goal.returns-then-is_some-clause-past
returns-then-is_some-clause-past g c past bytes taken h =
    answered_with _ c.args.plan.now.dialects.items c.as_slice.result.now past bytes taken c.args.self.now _ c.as_slice.ensures.value h refl refl refl refl c.answer.ensures

pub returns-else-is_some-clause-past : goal.returns-else-is_some-clause-past
returns-else-is_some-clause-past g c past bytes taken h =
    unasked_of _ c.args.plan.now.dialects.items past bytes taken c.args.self.now _ h (none_of c.args.self.now.words.kept (sym c.is_some.ensures ∙ c.if-is_some.false)) refl refl refl refl

pub returns-else-is_some-clause-even : goal.returns-else-is_some-clause-even
returns-else-is_some-clause-even g c past h even asked =
    absurd (kept_asked _ c.args.plan.now.dialects.items past c.args.self.now h (none_of c.args.self.now.words.kept (sym c.is_some.ensures ∙ c.if-is_some.false)) asked)
