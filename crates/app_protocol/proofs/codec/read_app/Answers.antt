use Rattle.std.proofs.lemmas.Result.{IfOk-weaker}
use Rattle.app_protocol.proofs.Roots.{is_app}
use Rattle.app_protocol.proofs.codec.read_app.Goals as goal

pub returns-clause-read : goal.returns-clause-read
returns-clause-read c = IfOk-weaker c.read.result _ _ (λ m. is_app m c.args.payload.now) c.read.ensures.read
