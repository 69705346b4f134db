use Rattle.std.proofs.Common.{arith, refl, ap, length}
use Rattle.exi_events.proofs.child.code_word.Goals as goal

pub returns-in_err-push-clause-some : goal.returns-in_err-push-clause-some
returns-in_err-push-clause-some c none = omega (arith, c.in_err-push.ensures.none refl, ap length c.new-word.ensures, c.requires.few)
