use Rattle.schedule_answers.proofs.Requestable.{can_request}
use Rattle.schedule_answers.proofs.answer.answer_of.Goals as goal

pub payload_of-requires-clause-profile : goal.payload_of-requires-clause-profile
payload_of-requires-clause-profile c =
    can_request c.steps_are_bounded.ensures c.args.payload.now c.args.need _ c.requires.day c.requires.watts c.in_ok-profile.ensures.profile

pub returns-clause-answer : goal.returns-clause-answer
returns-clause-answer c = record { profile = c.in_ok-profile.ensures.profile; request = c.in_ok-request.ensures }
