use Rattle.post_spec.specs.Codecs.{codecs}
use Rattle.car_spec.specs.Codecs as car_codecs
use Rattle.pair_talk.specs.Sides.{sides}
use Rattle.pair_talk.proofs.Lessening.{car_keeps}
use Rattle.pair_talk.proofs.Steps.{car_once}
use Rattle.pair_talk.proofs.acting.step_once.Goals as goal

pub returns-clause-steps : goal.returns-clause-steps
returns-clause-steps g c st plan h k =
    let cs = codecs g.C.Coded.negotiates g.C.Coded.reads g.C.Coded.encodes in
    let ccs = car_codecs.codecs g.D.CarCoded.offers g.D.CarCoded.responds g.D.CarCoded.reads g.D.CarCoded.encodes in
    car_once cs ccs st plan h (sides c.args.pair.now) _ _ c.step.result c.requires.quiet c.step.ensures.goes k

pub returns-clause-kept : goal.returns-clause-kept
returns-clause-kept g c = car_keeps (car_codecs.codecs g.D.CarCoded.offers g.D.CarCoded.responds g.D.CarCoded.reads g.D.CarCoded.encodes) (sides c.args.pair.now) _ _ c.step.result c.step.ensures.goes
