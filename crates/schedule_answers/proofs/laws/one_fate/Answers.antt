use Rattle.schedule_answers.proofs.Fates.{same_answer, answer_apart, same_fault}
use Rattle.schedule_answers.proofs.laws.one_fate.Goals as goal

pub returns-clause-profile : goal.returns-clause-profile
returns-clause-profile c = same_answer c.one_best.ensures

pub returns-clause-apart : goal.returns-clause-apart
returns-clause-apart c = answer_apart

pub returns-clause-fault : goal.returns-clause-fault
returns-clause-fault c = same_fault

pub returns-clause-answered : goal.returns-clause-answered
returns-clause-answered c =
    λ payload need profile why bit is refused. c.messages_and_refusals.ensures.apart payload is.message why bit is.spelled refused

pub returns-clause-unanswered : goal.returns-clause-unanswered
returns-clause-unanswered c =
    λ payload need fault why bit is refused. c.messages_and_refusals.ensures.apart payload is.message why bit is.spelled refused
