use Rattle.audit_mandates.proofs.Telling.{starts_tell as holds}
use Rattle.audit_mandates.proofs.starts_tell.Goals as goal

pub returns : goal.returns
returns g c = holds _
