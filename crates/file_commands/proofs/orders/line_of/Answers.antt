use Rattle.std.proofs.Common.{◌∙◌}
use Rattle.std.proofs.lemmas.Result.{IfOk-weaker}
use Rattle.file_commands.proofs.OrderLines.{open_line, close_line, duty_line}
use Rattle.file_commands.proofs.orders.line_of.Goals as goal

pub returns-in-Open : goal.returns-in-Open
returns-in-Open c = rw c.in-Open.is (IfOk-weaker c.format.result _ _ (λ line h. h ∙ open_line c.args.now) c.format.ensures.ok)

pub returns-in-Close : goal.returns-in-Close
returns-in-Close c = rw c.in-Close.is (IfOk-weaker c.format-in-Close.result _ _ (λ line h. h ∙ close_line c.args.now) c.format-in-Close.ensures.ok)

pub returns-in-Duty : goal.returns-in-Duty
returns-in-Duty c = rw c.in-Duty.is (IfOk-weaker c.format-in-Duty.result _ _ (λ line h. h ∙ duty_line c.args.now c.in-Duty.duty) c.format-in-Duty.ensures.ok)
