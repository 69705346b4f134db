use Rattle.std.proofs.Common.{◌≡◌, true, false, ◌∷◌, take, sym, ap, ◌∙◌, arith}
use Rattle.std.specs.Prelude.{reverse}
use Rattle.command_status.proofs.Pieces.{on_err}
use Rattle.trace_text.specs.Pasts.{hearing_number}
use Rattle.migrate_command.proofs.Texts.{one_behind, one_more, one_cut, first_cut, few, counted_here, unfailed}
use Rattle.migrate_command.proofs.writing.write_entries.Goals as goal
use Rattle.migrate_command.proofs.writing.write_entries.Goals.{then-is_hearing, else-is_hearing}

pub returns-in_err-write-clause-failed : goal.returns-in_err-write-clause-failed
returns-in_err-write-clause-failed g c = on_err c.from_residual.result _ (first_cut c.args.entries.now _ _ c.in_err-write.ensures.failed)

pub overflow_add-hearing : goal.overflow_add-hearing
overflow_add-hearing g c =
    let bound = few c.args.entries.now c.loop-entry.entry-index (omega (arith, c.loop-entry-test.true)) in
    omega (arith, bound, c.loop-entry.invariant.number, c.loop-entry-test.true, c.requires.few)

pub returns-in_err-write_line-clause-failed : goal.returns-in_err-write_line-clause-failed
returns-in_err-write_line-clause-failed g c =
    let entries = c.args.entries.now in
    let i = c.loop-entry.entry-index in
    let e = c.entry-item.result in
    let number : c.if-is_hearing.hearing ≡ hearing_number (e ∷ reverse (take i entries)) = elim c.if-is_hearing.branch [
      | then-is_hearing w ↦ counted_here true e (reverse (take i entries)) c.loop-entry.hearing c.if-is_hearing.hearing (sym w.if-is_hearing.true ∙ c.is_hearing.ensures) c.loop-entry.invariant.number w.hearing-is
      | else-is_hearing w ↦ counted_here false e (reverse (take i entries)) c.loop-entry.hearing c.if-is_hearing.hearing (sym w.if-is_hearing.false ∙ c.is_hearing.ensures) c.loop-entry.invariant.number w.hearing-is
    ] in
    on_err c.from_residual-in_err-write_line.result _
    (one_cut entries i c.if-is_hearing.hearing e _ _ _ c.loop-entry-test.true c.entry-item.is number c.loop-entry.invariant.written c.in_err-write_line.ensures.failed)

pub loop-entry-preserved : goal.loop-entry-preserved
loop-entry-preserved g c =
    let entries = c.args.entries.now in
    let i = c.loop-entry.entry-index in
    let e = c.entry-item.result in
    let number : c.if-is_hearing.hearing ≡ hearing_number (e ∷ reverse (take i entries)) = elim c.if-is_hearing.branch [
      | then-is_hearing w ↦ counted_here true e (reverse (take i entries)) c.loop-entry.hearing c.if-is_hearing.hearing (sym w.if-is_hearing.true ∙ c.is_hearing.ensures) c.loop-entry.invariant.number w.hearing-is
      | else-is_hearing w ↦ counted_here false e (reverse (take i entries)) c.loop-entry.hearing c.if-is_hearing.hearing (sym w.if-is_hearing.false ∙ c.is_hearing.ensures) c.loop-entry.invariant.number w.hearing-is
    ] in
    record {
      written = one_more entries i c.if-is_hearing.hearing e _ _ _ c.loop-entry-test.true c.entry-item.is number c.loop-entry.invariant.written c.in_ok-write_line.ensures.ok;
      faults = unfailed _ _ c.in_ok-write_line.field-0 c.in_ok-write_line.ensures.faults ∙ c.loop-entry.invariant.faults;
      number = number ∙ ap hearing_number (sym (one_behind entries i e c.loop-entry-test.true c.entry-item.is));
    }
