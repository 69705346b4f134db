use Rattle.parts_examples.specs.Parts.{report_tree}
use Rattle.message_tests.proofs.Again.{writable}
use Rattle.message_tests.proofs.parts.is_written.Goals as goal

pub write_report-requires-clause-message : goal.write_report-requires-clause-message
write_report-requires-clause-message c = writable (report_tree c.args.report.now) c.requires.message

pub write_report-requires-2-clause-message : goal.write_report-requires-2-clause-message
write_report-requires-2-clause-message c = writable (report_tree c.args.report.now) c.requires.message
