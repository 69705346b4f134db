use Rattle.std.proofs.Common.{subst, Bool, MatchBool}
use Rattle.audit_readings.specs.Saying.{IsFrame, IsNoFrame}
use Rattle.audit_readings.proofs.replies.response_in.Goals as goal

pub returns-else-is_frame : goal.returns-else-is_frame
returns-else-is_frame g c = λ payload positive e r.
    let none = subst (λ (b : Bool). MatchBool b (IsFrame c.args.bytes.now) (IsNoFrame c.args.bytes.now)) c.if-is_frame.false c.is_frame.ensures in
    none payload (g.met.R.ToldReader.short.responses payload positive r) e
