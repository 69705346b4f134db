use Rattle.std.proofs.Common.{refl, []}
use Rattle.message_parts.proofs.Chosen.{only_last}
use Rattle.parts_examples.specs.Declarations.{report_roots}
use Rattle.parts_examples.specs.declared.names.TheConstants.{REPORT}
use Rattle.parts_examples.specs.declared.kinds.TheConstants.{REPORT_KIND}
use Rattle.parts_examples.proofs.report.ReportChoice.read_member.Goals as goal

pub returns-clause-read : goal.returns-clause-read
returns-clause-read g c = λ F told h.
    c.member.ensures.read F report_roots REPORT REPORT_KIND told h
    (only_last [] (REPORT, REPORT_KIND) _ F.name h.kind h.here h.among tt) refl refl
