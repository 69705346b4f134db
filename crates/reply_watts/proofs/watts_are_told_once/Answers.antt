use Rattle.reply_watts.proofs.Payloads.{told_once, of_frame}
use Rattle.reply_watts.proofs.watts_are_told_once.Goals as goal

pub returns-clause-once : goal.returns-clause-once
returns-clause-once c = told_once

pub returns-clause-short : goal.returns-clause-short
returns-clause-short c = of_frame
