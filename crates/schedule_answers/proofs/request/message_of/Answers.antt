use Rattle.schedule_answers.proofs.request.message_of.Goals as goal

pub returns-clause-tuple : goal.returns-clause-tuple
returns-clause-tuple c = c.tuple_of.ensures.bound
