use Rattle.car_spec.specs.Codecs.{codecs}
use Rattle.car_turns.proofs.Heard.{lost_run}
use Rattle.car_turns.proofs.turning.CarSiteEnd.miss.Goals as goal

pub returns-clause-carried : goal.returns-clause-carried
returns-clause-carried g c plan k past goes_on left run =
    let d = c.args.self.now.driver in
    lost_run (codecs g.C.CarCoded.offers g.C.CarCoded.responds g.C.CarCoded.reads g.C.CarCoded.encodes) d.plan k d.car d.report past goes_on left c.requires.lives c.requires.rests.quiet run
