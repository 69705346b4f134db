use Rattle.std.proofs.Common.{[]}
use Rattle.post_spec.specs.Codecs.{codecs}
use Rattle.car_spec.specs.Codecs as car_codecs
use Rattle.pair_talk.specs.Sides.{sides}
use Rattle.pair_talk.proofs.Sessions.{awaits_first, new_ready, new_quiet, talks}
use Rattle.pair_talk.proofs.talking.talk.Goals as goal

pub hold_session-requires-clause-ready : goal.hold_session-requires-clause-ready
hold_session-requires-clause-ready g c = new_ready g.C.Coded.reads c.args.station.now c.args.car.now c.args.seed (sides c.in_ok-pair.pair) c.in_ok-pair.ensures

pub hold_session-requires-clause-quiet : goal.hold_session-requires-clause-quiet
hold_session-requires-clause-quiet g c = new_quiet c.args.station.now c.args.car.now c.args.seed (sides c.in_ok-pair.pair) c.in_ok-pair.ensures

pub returns : goal.returns
returns g c =
    let cs = codecs g.C.Coded.negotiates g.C.Coded.reads g.C.Coded.encodes in
    let ccs = car_codecs.codecs g.D.CarCoded.offers g.D.CarCoded.responds g.D.CarCoded.reads g.D.CarCoded.encodes in
    let site = c.args.station.now in
    let plan = c.args.car.now in
    let s = sides c.in_ok-pair.pair in
    let new = c.in_ok-pair.ensures in
    talks cs ccs site plan c.args.seed s (sides c.hold_session.new.pair) c.report_of.result new c.requires.station c.requires.car c.report_of.ensures.exchanges c.report_of.ensures.cause
    (c.hold_session.ensures.ends _ plan [] (awaits_first cs ccs site plan c.args.seed s new))
