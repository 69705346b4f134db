use Rattle.std.proofs.Common.{sym, ◌∙◌, arith}
use Rattle.post_spec.specs.Codecs.{codecs}
use Rattle.car_spec.specs.Codecs as car_codecs
use Rattle.pair_talk.specs.Sides.{sides}
use Rattle.pair_talk.proofs.Happened.{left_by}
use Rattle.pair_talk.proofs.Steps.{nothing_more, then, turn_goes_on}
use Rattle.pair_talk.proofs.session.go_on.Goals as goal

pub loop-codec-init : goal.loop-codec-init
loop-codec-init g c =
    let cs = codecs g.C.Coded.negotiates g.C.Coded.reads g.C.Coded.encodes in
    let ccs = car_codecs.codecs g.D.CarCoded.offers g.D.CarCoded.responds g.D.CarCoded.reads g.D.CarCoded.encodes in
    record {
      goes = λ st plan h k. nothing_more cs ccs st plan h (sides c.args.pair.now) k;
      sound = c.requires.sound;
      post = c.requires.post;
      car = c.requires.car;
      early = c.requires.early;
    }

pub turn-requires-clause-early : goal.turn-requires-clause-early
turn-requires-clause-early g c =
    let l = left_by (sides c.loop-codec.pair) (sym c.is_over.ensures ∙ c.loop-codec-test.true) in
    let p = l.post in
    let few = c.loop-codec.invariant.sound.turns in
    let early = c.loop-codec.invariant.early in
    omega (arith, p, few, early)

pub loop-codec-preserved : goal.loop-codec-preserved
loop-codec-preserved g c =
    let cs = codecs g.C.Coded.negotiates g.C.Coded.reads g.C.Coded.encodes in
    let ccs = car_codecs.codecs g.D.CarCoded.offers g.D.CarCoded.responds g.D.CarCoded.reads g.D.CarCoded.encodes in
    record {
      goes = λ st plan h k. then cs ccs st plan h (sides c.loop-codec.pair) (sides c.turn.new.pair) (c.loop-codec.invariant.goes st plan h k) (turn_goes_on cs ccs st plan _ _ (sides c.turn.new.pair) (c.turn.ensures.goes st plan _ (c.loop-codec.invariant.goes st plan h k).at));
      sound = c.turn.ensures.sound;
      post = c.turn.ensures.post;
      car = c.turn.ensures.car;
      early = let t = c.turn.ensures.time in let e = c.loop-codec.invariant.early in omega (arith, t, e);
    }
