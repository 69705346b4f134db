use Rattle.site_core.proofs.Served.{all_closed}
use Rattle.site_core.proofs.turning.SiteEnd.cut.Goals as goal

pub returns-clause-closed : goal.returns-clause-closed
returns-clause-closed g c = all_closed _ _ c.args.self.now.places.items c.deref.result.now c.deref.ensures.value c.cut_all.ensures.closed c.cut_all.ensures.orders
