use Rattle.site_plan.proofs.Defaults.{site_said}
use Rattle.site_plan.proofs.stored.fixed.Goals as goal

pub returns-clause-text : goal.returns-clause-text
returns-clause-text c = site_said c.args.ac c.default_site.result c.default_site.ensures.fields
