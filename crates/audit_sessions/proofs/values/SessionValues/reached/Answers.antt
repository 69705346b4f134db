use Rattle.std.proofs.Common.{Option, subst, sym}
use Rattle.std.specs.Prelude.{SomeIff}
use Rattle.session_words.specs.declared.cause.Timeout.{Timeout}
use Rattle.post_spec.specs.Causes.{running}
use Rattle.post_spec.specs.Sessions.{waits}
use Rattle.audit_sessions.specs.Due.{IsReached}
use Rattle.audit_sessions.proofs.Due.{reached_told}
use Rattle.audit_sessions.proofs.values.SessionValues.reached.Goals as goal

pub returns : goal.returns
returns c past es talked h lives is =
    subst (λ (o : Option Timeout). SomeIff o (IsReached talked past es) (running c.args.set_up (waits es))) (sym c.reached_now.ensures)
    (reached_told c.args.self.now c.args.set_up past es talked h lives is)
