use Rattle.post_spec.specs.Codecs.{codecs}
use Rattle.car_spec.specs.Codecs as car_codecs
use Rattle.pair_talk.specs.Sides.{sides}
use Rattle.pair_talk.proofs.Steps.{turned}
use Rattle.pair_talk.proofs.turning.turn.Goals as goal

pub returns-clause-goes : goal.returns-clause-goes
returns-clause-goes g c st plan h k =
    let cs = codecs g.C.Coded.negotiates g.C.Coded.reads g.C.Coded.encodes in
    let ccs = car_codecs.codecs g.D.CarCoded.offers g.D.CarCoded.responds g.D.CarCoded.reads g.D.CarCoded.encodes in
    let m = c.happen-last.ensures.goes st plan h k in
    turned cs ccs st plan h _ (sides c.happen-last.new.pair) (sides c.answer.new.pair) m (c.answer.ensures.acts st plan _ m.at)
