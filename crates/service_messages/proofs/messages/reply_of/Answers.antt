use Rattle.std.proofs.Common.{arith}
use Rattle.service_messages.proofs.Holding.{reply_held}
use Rattle.service_messages.proofs.messages.reply_of.Goals as goal

pub returns-in-Some-clause-held : goal.returns-in-Some-clause-held
returns-in-Some-clause-held c = reply_held _ (omega (arith, c.ranges.id.fits)) c.list_of.ensures.held

pub returns-in-None-clause-held : goal.returns-in-None-clause-held
returns-in-None-clause-held c = reply_held _ (omega (arith, c.ranges.id.fits)) tt
