use Rattle.std.proofs.Common.{◌≡◌, ℕ, ◌+◌, ◌-◌, ◌<◌, length, ap, ◌∙◌, arith}
use Rattle.site_posts.specs.declared.report.PostReport.{PostReport}
use Rattle.site_posts.specs.Filling.{at}
use Rattle.command_status.proofs.Pieces.{on_err}
use Rattle.station_command.specs.Lines.{report_line}
use Rattle.station_command.proofs.Printed.{unfailed, one_more, one_cut}
use Rattle.station_command.proofs.lines.write_reports.Goals as goal

pub returns-in_err-write-clause-failed : goal.returns-in_err-write-clause-failed
returns-in_err-write-clause-failed g c =
    let places = c.args.site.now.places.items in
    let i = c.loop-place.place in
    let number : i + 1 - 1 ≡ i = omega arith in
    let report : c.report.result ≡ (at places i).report = c.report.ensures ∙ ap (λ (n : ℕ). (at places n).report) number in
    let line : c.as_slice.result.now ≡ report_line (i + 1) (at places i).report =
    c.as_slice.ensures.value ∙ c.line_of.ensures ∙ ap (λ (r : PostReport). report_line (i + 1) r) report in
    let within : i < length places = omega arith in
    on_err c.from_residual.result _ (one_cut places i _ _ _ _ within line c.loop-place.invariant.written c.in_err-write.ensures.failed)

pub loop-place-preserved : goal.loop-place-preserved
loop-place-preserved g c =
    let places = c.args.site.now.places.items in
    let i = c.loop-place.place in
    let number : i + 1 - 1 ≡ i = omega arith in
    let report : c.report.result ≡ (at places i).report = c.report.ensures ∙ ap (λ (n : ℕ). (at places n).report) number in
    let line : c.as_slice.result.now ≡ report_line (i + 1) (at places i).report =
    c.as_slice.ensures.value ∙ c.line_of.ensures ∙ ap (λ (r : PostReport). report_line (i + 1) r) report in
    let within : i < length places = omega arith in
    record {
      written = one_more places i _ _ _ _ within line c.loop-place.invariant.written c.in_ok-write.ensures.ok;
      faults = unfailed _ _ c.in_ok-write.field-0 c.in_ok-write.ensures.faults ∙ c.loop-place.invariant.faults;
    }
