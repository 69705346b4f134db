use Rattle.std.proofs.Common.{refl, sym, ◌∙◌}
use Rattle.secc_machine.specs.contracts.post.Post as post_view
use Rattle.secc_machine.proofs.Answering.{answered_some, answered_none}
use Rattle.secc_machine.proofs.post.Post.ask.Goals as goal

pub returns-in-Some : goal.returns-in-Some
returns-in-Some c =
    let s = post_view.the_view c.self.inside in
    answered_some c.args.self.now s c.args.plan.now c.args.request.now c.args.shown _ _ _ c.self.view_is
    (c.answer-answer.ensures.session s refl refl) c.answer-answer.ensures.facts (sym c.in-Some.is ∙ c.answer-answer.ensures.agenda s refl refl)

pub returns-in-None : goal.returns-in-None
returns-in-None c =
    let s = post_view.the_view c.self.inside in
    answered_none c.args.self.now s c.args.plan.now c.args.request.now c.args.shown _ _ c.self.view_is
    (c.answer-answer.ensures.session s refl refl) c.answer-answer.ensures.facts (sym c.in-None.is ∙ c.answer-answer.ensures.agenda s refl refl)
