use Rattle.std.proofs.Common.{◌≡◌, ◌≤◌}
use Rattle.std.specs.Prelude.{IsSome}
use Rattle.endpoint.specs.Knowing.{Known}
use Rattle.endpoint.specs.Telling.{Carries, CarriesText, IsTraced}
use Rattle.car_codec.specs.Requests.{IsPlan}
use Rattle.car_spec.specs.Codecs.{codecs}
use Rattle.evcc_machine.specs.Work.{work}
use Rattle.car_acts.specs.Driving.{InRun}
use Rattle.car_acts.specs.Sound.{IsSound}
use Rattle.car_turns.proofs.turning.answer.Given as goal

abbrev pub invariant-loop : goal.invariant-loop
invariant-loop g l = record {
  carried : (k : Known) → Carries (g.W.Wire.past l.initial.wire) (g.W.Wire.past l.wire)
      (InRun (codecs g.C.CarCoded.offers g.C.CarCoded.responds g.C.CarCoded.reads g.C.CarCoded.encodes) l.initial.driver.plan k l.initial.driver.car l.initial.driver.report)
      (InRun (codecs g.C.CarCoded.offers g.C.CarCoded.responds g.C.CarCoded.reads g.C.CarCoded.encodes) l.initial.driver.plan k l.driver.car l.driver.report);
  traced : CarriesText (g.W.Wire.past l.initial.wire) (g.W.Wire.past l.wire) (g.J.Sink.taken l.initial.trace) (g.J.Sink.taken l.trace) (IsTraced l.hearing) (IsTraced l.hearing);
  plan : l.driver.plan ≡ l.initial.driver.plan;
  rules : IsPlan l.driver.plan;
  sound : IsSound l.driver.plan l.driver.car;
  writes : g.J.Sink.faults l.trace ≡ g.J.Sink.faults l.initial.trace;
  untils : IsSome (g.W.Wire.past l.wire) → g.W.Wire.untils l.wire ≡ g.W.Wire.untils l.initial.wire;
  started : g.W.Wire.started l.wire ≡ g.W.Wire.started l.initial.wire;
  posts : g.W.Wire.posts l.wire ≡ g.W.Wire.posts l.initial.wire;
  faults : g.W.Wire.faults l.initial.wire ≤ g.W.Wire.faults l.wire;
}

abbrev pub decreases-loop : goal.decreases-loop
decreases-loop g l = work l.driver.plan l.driver.car
