use Rattle.post_spec.specs.Codecs.{codecs}
use Rattle.car_spec.specs.Codecs as car_codecs
use Rattle.pair_talk.specs.Sides.{sides}
use Rattle.pair_talk.proofs.Lessening.{post_keeps, stays}
use Rattle.pair_talk.proofs.Steps.{post_once}
use Rattle.pair_talk.proofs.acting.act_once.Goals as goal

pub returns-clause-acts : goal.returns-clause-acts
returns-clause-acts g c st plan h k =
    let cs = codecs g.C.Coded.negotiates g.C.Coded.reads g.C.Coded.encodes in
    let ccs = car_codecs.codecs g.D.CarCoded.offers g.D.CarCoded.responds g.D.CarCoded.reads g.D.CarCoded.encodes in
    post_once cs ccs st plan h (sides c.args.pair.now) _ _ c.act.result c.act.ensures.goes k

pub returns-clause-kept : goal.returns-clause-kept
returns-clause-kept g c = post_keeps (codecs g.C.Coded.negotiates g.C.Coded.reads g.C.Coded.encodes) (sides c.args.pair.now) _ _ c.act.result c.act.ensures.goes

pub returns-clause-still : goal.returns-clause-still
returns-clause-still g c q = stays (codecs g.C.Coded.negotiates g.C.Coded.reads g.C.Coded.encodes) (sides c.args.pair.now) _ _ c.act.result c.act.ensures.goes q
