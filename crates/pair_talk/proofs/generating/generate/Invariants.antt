use Rattle.post_spec.specs.Codecs.{codecs}
use Rattle.car_spec.specs.Codecs as car_codecs
use Rattle.pair_talk.specs.Generating.{AreHeld}
use Rattle.pair_talk.specs.Keeping.{AreSound, PostIsQuiet}
use Rattle.pair_talk.specs.Sides.{sides}
use Rattle.pair_talk.proofs.generating.generate.Given as goal

abbrev pub invariant-loop-held : goal.invariant-loop-held
invariant-loop-held g l = record {
  held : AreHeld (codecs g.C.Coded.negotiates g.C.Coded.reads g.C.Coded.encodes) (car_codecs.codecs g.D.CarCoded.offers g.D.CarCoded.responds g.D.CarCoded.reads g.D.CarCoded.encodes) l.seed l._held (sides l.pair);
  sound : AreSound g.C.Coded.reads (sides l.pair);
  quiet : PostIsQuiet (sides l.pair);
}
