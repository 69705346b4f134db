use Rattle.std.proofs.Common.{refl, inl, inr}
use Rattle.migrate_command.proofs.Printed.{printed, some_memory, out_failed, failed, never, sink_is_no_memory}
use Rattle.migrate_command.proofs.Texts.{unfailed}
use Rattle.migrate_command.proofs.command.write_and_print.Goals as goal

pub returns-in-Ok : goal.returns-in-Ok
returns-in-Ok g c =
    let same = unfailed _ _ c.in-Ok.field-0 c.in-Ok.ensures.faults in
    record {
      wrote = printed c.args.entries.now c.print_lines.result _ _ _ (record { appends = c.in-Ok.ensures.ok; faults = same }) refl c.print_lines.ensures;
      no_memory = some_memory c.print_lines.result _ _ c.print_lines.ensures;
      sink_fault = λ is. inl (out_failed c.print_lines.result _ _ c.print_lines.ensures is);
      trace_fault = λ less. absurd (never _ _ same less);
    }

pub returns-in-Err : goal.returns-in-Err
returns-in-Err g c =
    let risen = failed _ _ c.in-Err.field-0 c.in-Err.ensures.faults in
    record {
      wrote = inl (record { text = record { front = c.in-Err.ensures.failed; risen = risen }; line = record { same = refl; faults = refl } });
      no_memory = sink_is_no_memory;
      sink_fault = λ is. inr risen;
      trace_fault = λ less. refl;
    }
