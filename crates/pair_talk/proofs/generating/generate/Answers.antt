use Rattle.std.proofs.Common.{◌≡◌, ◌≤◌, ℕ, subst, arith}
use Rattle.post_spec.specs.Codecs.{codecs}
use Rattle.car_spec.specs.Codecs as car_codecs
use Rattle.pair_talk.specs.Generating.{AreHeld}
use Rattle.pair_talk.specs.Sides.{sides}
use Rattle.pair_talk.proofs.Generated.{held_early, held_counts}
use Rattle.pair_talk.proofs.generating.generate.Goals as goal

pub loop-held-preserved : goal.loop-held-preserved
loop-held-preserved g c = record {
  held = c.hold_next.ensures.held c.args.seed c.loop-held._held c.loop-held.invariant.held;
  sound = c.hold_next.ensures.sound;
  quiet = c.hold_next.ensures.quiet;
}

pub hold_next-requires-clause-early : goal.hold_next-requires-clause-early
hold_next-requires-clause-early g c =
    let cs = codecs g.C.Coded.negotiates g.C.Coded.reads g.C.Coded.encodes in
    let ccs = car_codecs.codecs g.D.CarCoded.offers g.D.CarCoded.responds g.D.CarCoded.reads g.D.CarCoded.encodes in
    let few : c.loop-held._held ≤ 1000 = omega arith in
    held_early cs ccs c.args.seed c.loop-held._held (sides c.loop-held.pair) few c.loop-held.invariant.held

pub returns : goal.returns
returns g c =
    let cs = codecs g.C.Coded.negotiates g.C.Coded.reads g.C.Coded.encodes in
    let ccs = car_codecs.codecs g.D.CarCoded.offers g.D.CarCoded.responds g.D.CarCoded.reads g.D.CarCoded.encodes in
    let all : c.loop-held._held ≡ c.args.count = omega arith in
    let held : AreHeld cs ccs c.args.seed c.args.count (sides c.loop-held.pair) = subst (λ (n : ℕ). AreHeld cs ccs c.args.seed n (sides c.loop-held.pair)) all c.loop-held.invariant.held in
    let counted = c.counts_of.ensures in
    held_counts cs ccs c.args.seed c.args.count (sides c.loop-held.pair) c.counts_of.result c.requires.few counted.replies counted.bytes counted.closed counted.opened held
