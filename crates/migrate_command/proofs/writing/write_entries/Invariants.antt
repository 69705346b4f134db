use Rattle.std.proofs.Common.{◌≡◌, take}
use Rattle.std.specs.Prelude.{reverse}
use Rattle.charge_world.specs.Outside.{Appends}
use Rattle.trace_text.specs.Pasts.{hearing_number}
use Rattle.migrate_command.specs.Formats.{numbered_text}
use Rattle.migrate_command.proofs.writing.write_entries.Given as goal

abbrev pub invariant-loop-entry : goal.invariant-loop-entry
invariant-loop-entry g l = record {
  written : Appends (g.J.Sink.taken l.fn.trace) (g.J.Sink.taken l.trace) (numbered_text (take l.entry-index l.entries));
  faults : g.J.Sink.faults l.trace ≡ g.J.Sink.faults l.fn.trace;
  number : l.hearing ≡ hearing_number (reverse (take l.entry-index l.entries));
}
