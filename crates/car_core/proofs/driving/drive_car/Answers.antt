use Rattle.std.proofs.Common.{◌≡◌, [], List, refl, sym, ap, subst, ◌∙◌}
use Rattle.charge_world.specs.declared.entry.Entry.{Entry}
use Rattle.session_words.specs.declared.plan.CarPlan.{CarPlan}
use Rattle.endpoint.specs.Knowing.{known_first}
use Rattle.endpoint.proofs.Carry.{carries_from, carries_to}
use Rattle.car_spec.specs.Codecs.{codecs}
use Rattle.car_spec.specs.States.{State}
use Rattle.car_acts.specs.Driving.{InRun}
use Rattle.car_acts.specs.Reporting.{reported}
use Rattle.car_turns.specs.Ending.{EndedAs, IsDriven, stopped_by, ended_by}
use Rattle.car_turns.proofs.Finished.{CarRun, back, driven, ended_car, made_ready}
use Rattle.car_turns.proofs.Heard.{begins}
use Rattle.car_core.specs.Lawful.{IsDrivenLawfully}
use Rattle.car_core.proofs.driving.drive_car.Goals as goal

pub run-stopped-requires-clause-rests : goal.run-stopped-requires-clause-rests
run-stopped-requires-clause-rests g c = made_ready c.args.car.now.driver.plan c.args.car.now.driver c.requires.made

pub run-stopped-requires-clause-lives : goal.run-stopped-requires-clause-lives
run-stopped-requires-clause-lives g c = ap (λ (s : State). s.over) c.requires.made.car_is

pub run-stopped-requires-clause-idle : goal.run-stopped-requires-clause-idle
run-stopped-requires-clause-idle g c blocks = rw c.requires.made.car_is refl

pub returns-clause-driven : goal.returns-clause-driven
returns-clause-driven g c =
    let cs = codecs g.C.CarCoded.offers g.C.CarCoded.responds g.C.CarCoded.reads g.C.CarCoded.encodes in
    let first = c.args.car.now.driver in
    let d = c.run-stopped.new.near.driver in
    let u = g.W.Wire.untils c.args.wire.now in
    let later = g.W.Wire.untils c.run-stopped.new.wire in
    let told = reported d.report d.car in
    let how = c.by.ensures ∙ ap (ended_by c.run-stopped.result) c.is_over.ensures in
    let driven_by : (past : List Entry) → CarRun cs d c.run-stopped.result u later past → IsDriven cs first.plan c.by.result u later told past = λ past h.
    subst (λ (p : CarPlan). IsDriven cs p c.by.result u later told past) c.run-stopped.ensures.kept (rw how (driven cs d c.run-stopped.result u later past h)) in
    let Q = IsDrivenLawfully cs first.plan c.by.result u later told in
    carries_from _ _ (λ past. past ≡ []) (λ past. (past ≡ []) × InRun cs first.plan known_first first.car first.report past) Q (λ past e. (e, begins cs first.plan first.car first.report past c.requires.made.car_is c.requires.made.report_is e))
    (carries_to _ _ (λ past. (past ≡ []) × InRun cs first.plan known_first first.car first.report past) (CarRun cs d c.run-stopped.result u later) Q
    (λ past h. record { driven = driven_by past h; lawful = c.law_of_cars.ensures first.plan c.by.result u later told past (driven_by past h) }) (c.run-stopped.ensures.ran tt))

pub returns-clause-ended : goal.returns-clause-ended
returns-clause-ended g c =
    let cs = codecs g.C.CarCoded.offers g.C.CarCoded.responds g.C.CarCoded.reads g.C.CarCoded.encodes in
    let first = c.args.car.now.driver in
    let d = c.run-stopped.new.near.driver in
    let u = g.W.Wire.untils c.args.wire.now in
    let later = g.W.Wire.untils c.run-stopped.new.wire in
    let Q = EndedAs first.plan.turns c.by.result in
    let how = c.by.ensures ∙ ap (ended_by c.run-stopped.result) c.is_over.ensures in
    carries_from _ _ (λ past. past ≡ []) (λ past. (past ≡ []) × InRun cs first.plan known_first first.car first.report past) Q (λ past e. (e, begins cs first.plan first.car first.report past c.requires.made.car_is c.requires.made.report_is e))
    (carries_to _ _ (λ past. (past ≡ []) × InRun cs first.plan known_first first.car first.report past) (CarRun cs d c.run-stopped.result u later) Q
    (λ past h. subst (λ (p : CarPlan). EndedAs p.turns c.by.result past) c.run-stopped.ensures.kept (rw how (ended_car cs d c.run-stopped.result u later past h))) (c.run-stopped.ensures.ran tt))

pub returns-clause-trace : goal.returns-clause-trace
returns-clause-trace g c = rw (ap stopped_by (c.by.ensures ∙ ap (ended_by c.run-stopped.result) c.is_over.ensures) ∙ back c.run-stopped.result c.run-stopped.new.near.driver.car.over) c.run-stopped.ensures.trace

pub returns-clause-trace_fault : goal.returns-clause-trace_fault
returns-clause-trace_fault g c = rw (ap stopped_by (c.by.ensures ∙ ap (ended_by c.run-stopped.result) c.is_over.ensures) ∙ back c.run-stopped.result c.run-stopped.new.near.driver.car.over) c.run-stopped.ensures.trace_fault

pub returns-clause-lost : goal.returns-clause-lost
returns-clause-lost g c e =
    c.run-stopped.ensures.lost (sym (back c.run-stopped.result c.run-stopped.new.near.driver.car.over) ∙ sym (ap stopped_by (c.by.ensures ∙ ap (ended_by c.run-stopped.result) c.is_over.ensures)) ∙ ap stopped_by e)
