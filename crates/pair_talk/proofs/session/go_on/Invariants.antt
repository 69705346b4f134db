use Rattle.std.proofs.Common.{◌≤◌, ◌+◌, ◌*◌, ◌^◌, List}
use Rattle.session_words.specs.declared.plan.CarPlan.{CarPlan}
use Rattle.post_spec.specs.Codecs.{codecs}
use Rattle.car_spec.specs.Codecs as car_codecs
use Rattle.pipe_spec.specs.Histories.{Happening}
use Rattle.pipe_spec.specs.Turns.{Station}
use Rattle.pair_talk.specs.Keeping.{AreSound, PostIsQuiet, CarIsQuiet, IsAt, GoesOn}
use Rattle.pair_talk.specs.Lessening.{left}
use Rattle.pair_talk.specs.Sides.{sides}
use Rattle.pair_talk.proofs.session.go_on.Given as goal

abbrev pub invariant-loop-codec : goal.invariant-loop-codec
invariant-loop-codec g l = record {
  goes : (st : Station) (plan : CarPlan) (h : List Happening)
      → IsAt (codecs g.C.Coded.negotiates g.C.Coded.reads g.C.Coded.encodes) (car_codecs.codecs g.D.CarCoded.offers g.D.CarCoded.responds g.D.CarCoded.reads g.D.CarCoded.encodes) st plan h (sides l.initial.pair)
      → GoesOn (codecs g.C.Coded.negotiates g.C.Coded.reads g.C.Coded.encodes) (car_codecs.codecs g.D.CarCoded.offers g.D.CarCoded.responds g.D.CarCoded.reads g.D.CarCoded.encodes) st plan h (sides l.pair);
  sound : AreSound g.C.Coded.reads (sides l.pair);
  post : PostIsQuiet (sides l.pair);
  car : CarIsQuiet (sides l.pair);
  early : (sides l.pair).moment ≤ 2 ^ 62 + 10 * (sides l.pair).post.tally.hearings;
}

abbrev pub decreases-loop-codec : goal.decreases-loop-codec
decreases-loop-codec g l = left (sides l.pair)
