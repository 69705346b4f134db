use Rattle.std.proofs.Common.{◌≡◌, Some, inr, sym, ap, subst, ◌∙◌}
use Rattle.charge_world.specs.declared.ports.Ports.{Ports}
use Rattle.session_words.specs.declared.plan.CarPlan.{CarPlan}
use Rattle.endpoint.specs.Telling.{Carries}
use Rattle.car_spec.specs.Codecs.{codecs}
use Rattle.car_spec.specs.Report.{Report}
use Rattle.car_acts.specs.Reporting.{reported}
use Rattle.car_core.specs.Lawful.{IsDrivenLawfully}
use Rattle.car_core.specs.Made.{IsMadeOf}
use Rattle.car_core.specs.Ending.{EndedAs}
use Rattle.station_command.proofs.Begun.{IsNew, started_run, started_text}
use Rattle.command_status.specs.Told.{sink_told}
use Rattle.car_command.specs.Lines.{Concludes}
use Rattle.car_command.proofs.Begun.{started_waits}
use Rattle.car_command.proofs.driving.drive_site.Goals as goal

pub drive_car-ended-requires-clause-made : goal.drive_car-ended-requires-clause-made
drive_car-ended-requires-clause-made g c =
    subst (λ (plan : CarPlan). IsMadeOf plan c.args.site.now.driver) (sym c.requires.made.plan_is) c.requires.made

pub returns-clause-driven : goal.returns-clause-driven
returns-clause-driven g c =
    let s = c.drive_car-ended.ensures in
    let start = c.start.ensures in
    let how = c.drive_car-ended.result in
    let told = reported c.drive_car-ended.new.car.driver.report c.drive_car-ended.new.car.driver.car in
    let codecs = codecs g.C.CarCoded.offers g.C.CarCoded.responds g.C.CarCoded.reads g.C.CarCoded.encodes in
    let past = g.W.Wire.past in
    let taken = g.K.Sink.taken in
    let faults = g.K.Sink.faults in
    let is : c.args.site.now.driver.plan ≡ c.args.plan.now = c.requires.made.plan_is in
    let ended = subst (λ (plan : CarPlan). Carries (past c.start.new.self) (past c.drive_car-ended.new.wire) IsNew (EndedAs plan.turns how)) is s.ended in
    let driven = subst (λ (plan : CarPlan). Carries (past c.start.new.self) (past c.drive_car-ended.new.wire) IsNew
    (IsDrivenLawfully codecs plan how (g.W.Wire.untils c.start.new.self) (g.W.Wire.untils c.drive_car-ended.new.wire) told)) is s.driven in
    record {
      ports = s.started ∙ start.started ∙ ap (λ (ports : Ports). Some ports) c.ports_of.ensures;
      driven = inr (record {
        how = how;
        told = told;
        ended = started_run _ _ _ _ start.past ended;
        driven = started_waits _ _ _ _ _ (λ waits. IsDrivenLawfully codecs c.args.plan.now how waits (g.W.Wire.untils c.drive_car-ended.new.wire) told) start.past start.untils driven;
        traced = started_text _ _ _ _ _ _ start.past s.trace;
        line = subst (λ (report : Report). Concludes how report c.conclude.result (sink_told (taken c.args.out.now) (faults c.args.out.now))
            (sink_told (taken c.conclude.new.out) (faults c.conclude.new.out))) c.report.ensures c.conclude.ensures;
      });
    }
