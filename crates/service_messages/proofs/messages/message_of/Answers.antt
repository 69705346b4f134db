use Rattle.std.proofs.Common.{◌∙◌}
use Rattle.service_messages.proofs.Holding.{message_within}
use Rattle.service_messages.proofs.messages.message_of.Goals as goal

pub returns-clause-within : goal.returns-clause-within
returns-clause-within c = message_within c.of_bytes.result c.reply_of.result (c.of_bytes.ensures ∙ c.no_session.ensures) c.reply_of.ensures.held
