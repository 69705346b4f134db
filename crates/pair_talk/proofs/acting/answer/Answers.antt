use Rattle.std.proofs.Common.{◌∙◌, ap}
use Rattle.post_spec.specs.Codecs.{codecs}
use Rattle.car_spec.specs.Codecs as car_codecs
use Rattle.pair_talk.specs.Sides.{Sides, sides}
use Rattle.pair_talk.proofs.Lessening.{keeps_then}
use Rattle.pair_talk.proofs.Steps.{answered, then_deeds}
use Rattle.pair_talk.proofs.acting.answer.Goals as goal

pub returns-clause-acts : goal.returns-clause-acts
returns-clause-acts g c st plan h k =
    let cs = codecs g.C.Coded.negotiates g.C.Coded.reads g.C.Coded.encodes in
    let ccs = car_codecs.codecs g.D.CarCoded.offers g.D.CarCoded.responds g.D.CarCoded.reads g.D.CarCoded.encodes in
    let a = answered cs ccs st plan h (sides c.answer_post.new.pair) (c.answer_post.ensures.acts st plan h k) in
    then_deeds cs ccs st plan h (sides c.answer_post.new.pair) (sides c.answer_car.new.pair) a (c.answer_car.ensures.steps st plan _ a.at)

pub returns-clause-kept : goal.returns-clause-kept
returns-clause-kept g c = keeps_then (sides c.args.pair.now) (sides c.answer_post.new.pair) (sides c.answer_car.new.pair) c.answer_post.ensures.kept c.answer_car.ensures.kept

pub returns-clause-way : goal.returns-clause-way
returns-clause-way g c q = c.answer_car.ensures.way ∙ ap (λ (s : Sides). s.to_car) (c.answer_post.ensures.still q)
