use Rattle.secc_machine.specs.Views.{judged_of}
use Rattle.secc_machine.proofs.Answering.{is_shown}
use Rattle.secc_machine.proofs.post.Post.asks_for.Goals as goal

pub returns-clause-shown : goal.returns-clause-shown
returns-clause-shown c = λ limit before behind shown h.
    is_shown limit before behind c.args.plan.now c.args.self.now (judged_of c.args.judged.now) c.asks_of.result shown c.asks_of.ensures h
