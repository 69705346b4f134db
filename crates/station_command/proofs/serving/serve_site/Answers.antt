use Rattle.std.proofs.Common.{◌≡◌, ℕ, length, Some, inr, ap, subst, ◌∙◌, arith}
use Rattle.charge_world.specs.declared.ports.Ports.{Ports}
use Rattle.endpoint.specs.Telling.{Carries}
use Rattle.site_laws.specs.Ending.{EndedAs}
use Rattle.station_command.specs.Lines.{reports_of}
use Rattle.station_command.proofs.Begun.{IsNew, started_run, started_untils, started_text, counted, report_each}
use Rattle.station_command.proofs.serving.serve_site.Goals as goal

pub returns-clause-served : goal.returns-clause-served
returns-clause-served g c =
    let s = c.serve-ended.ensures in
    let plan = c.args.plan.now in
    let start = c.start.ensures in
    let places = c.serve-ended.new.site.places.items in
    let same : length places ≡ length c.args.site.now.places.items = omega (arith, s.count) in
    record {
      ports = s.started ∙ start.started ∙ ap (λ (ports : Ports). Some ports) c.ports_of.ensures;
      served = inr (record {
        how = c.serve-ended.result;
        run = started_run _ _ _ _ start.past (s.run plan c.requires.made);
        lawful = started_run _ _ _ _ start.past (s.lawful plan c.requires.made);
        ended = started_run _ _ _ _ start.past
            (subst (λ (turns : ℕ). Carries (g.W.Wire.past c.start.new.self) (g.W.Wire.past c.serve-ended.new.wire) IsNew (EndedAs turns c.serve-ended.result))
            c.requires.made.turns_is s.ended);
        traced = started_text _ _ _ _ _ _ start.past s.trace;
        awaited = started_untils _ _ _ _ _ _ start.past start.untils (s.untils plan c.requires.made);
        reports = reports_of places;
        each_post = report_each plan.post.items c.args.site.now.places.items places c.requires.made.places_are same;
        counts = started_run _ _ _ _ start.past (counted _ _ places s.reports);
        lines = c.conclude.ensures;
      });
    }
