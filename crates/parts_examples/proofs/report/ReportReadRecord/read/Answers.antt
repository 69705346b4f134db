use Rattle.std.proofs.Common.{refl}
use Rattle.parts_examples.specs.Declarations.{kinds, report, report_attributes}
use Rattle.parts_examples.proofs.report.ReportReadRecord.read.Goals as goal

pub returns-clause-read : goal.returns-clause-read
returns-clause-read g c = λ F told h.
    let number = c.in_ok-number.ensures.read kinds F report_attributes report 0 _ h refl refl in
    let revision = c.in_ok-revision.ensures.read kinds F report_attributes report 1 _ number refl refl in
    let place = c.in_ok-place.ensures.read kinds F report_attributes report 0 _ revision refl refl in
    let seal = c.in_ok-seal.ensures.read kinds F report_attributes report 1 _ place refl refl in
    let state = c.in_ok-state.ensures.read kinds F report_attributes report 2 _ seal refl refl in
    let meter = c.in_ok-meter.ensures.read F report_attributes report 3 _ state refl refl in
    let remark = c.in_ok-remark.ensures.read kinds F report_attributes report 4 _ meter refl refl refl in
    let amount = c.in_ok-amount.ensures.read F report_attributes report 5 _ remark refl refl in
    let supply = c.in_ok-supply.ensures.read F report_attributes report 6 _ amount refl refl in
    let cause = c.in_ok-cause.ensures.read F report_attributes report 7 _ supply refl refl in
    let days = c.in_ok-days.ensures.read F report_attributes report 8 _ cause refl refl refl in
    c.in_ok-closed.ensures.read F report_attributes report 9 _ days refl refl
