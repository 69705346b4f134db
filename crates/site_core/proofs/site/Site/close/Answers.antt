use Rattle.post_spec.specs.Codecs.{codecs}
use Rattle.site_core.proofs.Embedded.{closed_run}
use Rattle.site_core.proofs.site.Site.close.Goals as goal

pub returns-clause-run : goal.returns-clause-run
returns-clause-run g c plan =
    closed_run _ _ (codecs g.C.Coded.negotiates g.C.Coded.reads g.C.Coded.encodes) plan c.args.self.now.so_far c.args.self.now.places.items c.deref.result.now c.deref.ensures.value c.close_all.ensures.closed c.close_all.ensures.orders
