use Rattle.audit_checks.proofs.Posts.{are_posts}
use Rattle.audit_checks.proofs.checks_are_posts.Goals as goal

pub returns : goal.returns
returns g c = are_posts _
