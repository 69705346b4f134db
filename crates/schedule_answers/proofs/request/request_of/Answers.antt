use Rattle.schedule_answers.proofs.Requests.{request_within, request_small}
use Rattle.schedule_answers.proofs.request.request_of.Goals as goal

pub returns-clause-within : goal.returns-clause-within
returns-clause-within c = request_within c.args.profile.now c.message_of.result c.requires c.message_of.ensures.tuple c.message_of.ensures.message

pub returns-clause-small : goal.returns-clause-small
returns-clause-small c = request_small c.args.profile.now c.message_of.result c.requires c.message_of.ensures.message
