use Rattle.std.proofs.Common.{[], refl}
use Rattle.post_spec.specs.Codecs.{codecs}
use Rattle.site_turns.proofs.First.{none_so_far}
use Rattle.site_core.proofs.Embedded.{made_hears}
use Rattle.site_core.proofs.site.Site.make.Goals as goal

pub returns-clause-waits : goal.returns-clause-waits
returns-clause-waits g c = made_hears g.C.Coded.reads c.args.plan.now _ _ _ c.in_ok-places.ensures.made

pub returns-clause-run : goal.returns-clause-run
returns-clause-run g c =
    none_so_far (codecs g.C.Coded.negotiates g.C.Coded.reads g.C.Coded.encodes) c.args.plan.now _ _ _ c.nothing.result [] c.nothing.ensures c.in_ok-places.ensures.made refl
