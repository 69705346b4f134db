use Rattle.std.proofs.Common.{◌≡◌, List}
use Rattle.session_words.specs.declared.plan.CarPlan.{CarPlan}
use Rattle.post_spec.specs.Codecs.{codecs}
use Rattle.car_spec.specs.Codecs as car_codecs
use Rattle.evcc_machine.specs.Work.{work}
use Rattle.pipe_spec.specs.Histories.{Happening}
use Rattle.pipe_spec.specs.Turns.{Station}
use Rattle.pair_talk.specs.Acting.{HaveDone}
use Rattle.pair_talk.specs.Keeping.{AreSound, PostIsQuiet, IsAt}
use Rattle.pair_talk.specs.Lessening.{Keeps}
use Rattle.pair_talk.specs.Sides.{sides}
use Rattle.pair_talk.proofs.acting.answer_car.Given as goal

abbrev pub invariant-loop : goal.invariant-loop
invariant-loop g l = record {
  goes : (st : Station) (plan : CarPlan) (h : List Happening)
      → IsAt (codecs g.C.Coded.negotiates g.C.Coded.reads g.C.Coded.encodes) (car_codecs.codecs g.D.CarCoded.offers g.D.CarCoded.responds g.D.CarCoded.reads g.D.CarCoded.encodes) st plan h (sides l.initial.pair)
      → HaveDone (codecs g.C.Coded.negotiates g.C.Coded.reads g.C.Coded.encodes) (car_codecs.codecs g.D.CarCoded.offers g.D.CarCoded.responds g.D.CarCoded.reads g.D.CarCoded.encodes) st plan h (sides l.pair);
  sound : AreSound g.C.Coded.reads (sides l.pair);
  quiet : PostIsQuiet (sides l.pair);
  kept : Keeps (sides l.initial.pair) (sides l.pair);
  way : (sides l.pair).to_car ≡ (sides l.initial.pair).to_car;
}

abbrev pub decreases-loop : goal.decreases-loop
decreases-loop g l = work (sides l.pair).car.plan (sides l.pair).car.car
