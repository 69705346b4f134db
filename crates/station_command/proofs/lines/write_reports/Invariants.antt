use Rattle.std.proofs.Common.{◌≡◌, take}
use Rattle.charge_world.specs.Outside.{Appends}
use Rattle.station_command.specs.Lines.{report_lines, reports_of}
use Rattle.station_command.proofs.lines.write_reports.Given as goal

abbrev pub invariant-loop-place : goal.invariant-loop-place
invariant-loop-place g l = record {
  written : Appends (g.K.Sink.taken l.fn.out) (g.K.Sink.taken l.out) (report_lines 1 (reports_of (take l.place l.site.places.items)));
  faults : g.K.Sink.faults l.out ≡ g.K.Sink.faults l.fn.out;
}
