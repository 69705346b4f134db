use Rattle.post_spec.specs.Codecs.{codecs}
use Rattle.car_spec.specs.Codecs as car_codecs
use Rattle.pair_talk.specs.Sides.{sides}
use Rattle.pair_talk.proofs.Pipes.{made}
use Rattle.pair_talk.proofs.pipe.Pipe.make.Goals as goal

pub returns : goal.returns
returns g c =
    let cs = codecs g.C.Coded.negotiates g.C.Coded.reads g.C.Coded.encodes in
    let ccs = car_codecs.codecs g.D.CarCoded.offers g.D.CarCoded.responds g.D.CarCoded.reads g.D.CarCoded.encodes in
    made cs ccs c.args.station.now c.args.car.now c.args.seed (sides c.in_ok-pair.pair) _ c.in_ok-pair.ensures c.of.ensures
