use Rattle.post_spec.specs.Codecs.{codecs}
use Rattle.site_core.proofs.Served.{lost_by}
use Rattle.site_core.proofs.turning.SiteEnd.miss.Goals as goal

pub returns-clause-carried : goal.returns-clause-carried
returns-clause-carried g c plan k past goes_on left run =
    let site = c.args.self.now in
    lost_by (codecs g.C.Coded.negotiates g.C.Coded.reads g.C.Coded.encodes) plan (record { places = site.places.items; limit = site.limit; turns = site.turns }) k past goes_on left c.requires.rests.quiet run
