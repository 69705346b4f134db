use Rattle.std.proofs.Common.{refl, ◌∙◌}
use Rattle.post_spec.specs.Codecs.{codecs}
use Rattle.car_spec.specs.Codecs as car_codecs
use Rattle.pair_talk.specs.Sides.{sides}
use Rattle.pair_talk.proofs.Lessening.{keeps_none, keeps_then}
use Rattle.pair_talk.proofs.Steps.{one_deed, no_deed}
use Rattle.pair_talk.proofs.acting.answer_car.Goals as goal

pub loop-preserved : goal.loop-preserved
loop-preserved g c =
    let cs = codecs g.C.Coded.negotiates g.C.Coded.reads g.C.Coded.encodes in
    let ccs = car_codecs.codecs g.D.CarCoded.offers g.D.CarCoded.responds g.D.CarCoded.reads g.D.CarCoded.encodes in
    record {
      goes = λ st plan h k. one_deed cs ccs st plan h (sides c.loop.pair) (sides c.step_once.new.pair) c.step_once.result (c.loop.invariant.goes st plan h k) (c.step_once.ensures.steps st plan _ (c.loop.invariant.goes st plan h k).at);
      sound = c.step_once.ensures.sound;
      kept = keeps_then (sides c.args.pair.now) (sides c.loop.pair) (sides c.step_once.new.pair) c.loop.invariant.kept c.step_once.ensures.kept;
      way = c.step_once.ensures.way ∙ c.loop.invariant.way;
      quiet = c.step_once.ensures.post;
    }

pub returns-clause-steps : goal.returns-clause-steps
returns-clause-steps g c st plan h k =
    let cs = codecs g.C.Coded.negotiates g.C.Coded.reads g.C.Coded.encodes in
    let ccs = car_codecs.codecs g.D.CarCoded.offers g.D.CarCoded.responds g.D.CarCoded.reads g.D.CarCoded.encodes in
    one_deed cs ccs st plan h (sides c.loop.pair) (sides c.step_once.new.pair) c.step_once.result (c.loop.invariant.goes st plan h k) (c.step_once.ensures.steps st plan _ (c.loop.invariant.goes st plan h k).at)

pub returns-clause-way : goal.returns-clause-way
returns-clause-way g c = c.step_once.ensures.way ∙ c.loop.invariant.way

pub returns-clause-kept : goal.returns-clause-kept
returns-clause-kept g c = keeps_then (sides c.args.pair.now) (sides c.loop.pair) (sides c.step_once.new.pair) c.loop.invariant.kept c.step_once.ensures.kept

pub loop-init : goal.loop-init
loop-init g c =
    let cs = codecs g.C.Coded.negotiates g.C.Coded.reads g.C.Coded.encodes in
    let ccs = car_codecs.codecs g.D.CarCoded.offers g.D.CarCoded.responds g.D.CarCoded.reads g.D.CarCoded.encodes in
    record {
      goes = λ st plan h k. no_deed cs ccs st plan h (sides c.args.pair.now) k;
      sound = c.requires.sound;
      kept = keeps_none (sides c.args.pair.now);
      quiet = c.requires.quiet;
      way = refl;
    }
