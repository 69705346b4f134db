use Rattle.std.proofs.Common.{refl, sym, subst, ◌∙◌}
use Rattle.post_spec.specs.Codecs.{codecs}
use Rattle.car_spec.specs.Codecs as car_codecs
use Rattle.pair_talk.specs.Sides.{sides}
use Rattle.pair_talk.specs.Keeping.{PostIsQuiet}
use Rattle.pair_talk.proofs.Lessening.{keeps_none, keeps_then}
use Rattle.pair_talk.proofs.Steps.{one_act, no_act}
use Rattle.pair_talk.proofs.acting.answer_post.Goals as goal

pub loop-preserved : goal.loop-preserved
loop-preserved g c =
    let cs = codecs g.C.Coded.negotiates g.C.Coded.reads g.C.Coded.encodes in
    let ccs = car_codecs.codecs g.D.CarCoded.offers g.D.CarCoded.responds g.D.CarCoded.reads g.D.CarCoded.encodes in
    record {
      goes = λ st plan h k. one_act cs ccs st plan h (sides c.loop.pair) (sides c.act_once.new.pair) c.act_once.result (c.loop.invariant.goes st plan h k) (c.act_once.ensures.acts st plan _ (c.loop.invariant.goes st plan h k).at);
      sound = c.act_once.ensures.sound;
      kept = keeps_then (sides c.args.pair.now) (sides c.loop.pair) (sides c.act_once.new.pair) c.loop.invariant.kept c.act_once.ensures.kept;
      still = λ q. c.act_once.ensures.still (subst PostIsQuiet (sym (c.loop.invariant.still q)) q) ∙ c.loop.invariant.still q;
    }

pub returns-clause-acts : goal.returns-clause-acts
returns-clause-acts g c st plan h k =
    let cs = codecs g.C.Coded.negotiates g.C.Coded.reads g.C.Coded.encodes in
    let ccs = car_codecs.codecs g.D.CarCoded.offers g.D.CarCoded.responds g.D.CarCoded.reads g.D.CarCoded.encodes in
    one_act cs ccs st plan h (sides c.loop.pair) (sides c.act_once.new.pair) c.act_once.result (c.loop.invariant.goes st plan h k) (c.act_once.ensures.acts st plan _ (c.loop.invariant.goes st plan h k).at)

pub returns-clause-still : goal.returns-clause-still
returns-clause-still g c q = c.act_once.ensures.still (subst PostIsQuiet (sym (c.loop.invariant.still q)) q) ∙ c.loop.invariant.still q

pub returns-clause-kept : goal.returns-clause-kept
returns-clause-kept g c = keeps_then (sides c.args.pair.now) (sides c.loop.pair) (sides c.act_once.new.pair) c.loop.invariant.kept c.act_once.ensures.kept

pub loop-init : goal.loop-init
loop-init g c =
    let cs = codecs g.C.Coded.negotiates g.C.Coded.reads g.C.Coded.encodes in
    let ccs = car_codecs.codecs g.D.CarCoded.offers g.D.CarCoded.responds g.D.CarCoded.reads g.D.CarCoded.encodes in
    record {
      goes = λ st plan h k. no_act cs ccs st plan h (sides c.args.pair.now) k;
      sound = c.requires;
      kept = keeps_none (sides c.args.pair.now);
      still = λ q. refl;
    }
