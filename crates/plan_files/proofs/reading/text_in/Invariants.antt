use Rattle.std.proofs.Common.{◌+◌, ◌-◌, ◌≡◌, ℕ, List, length}
use Rattle.charge_world.specs.Outside.{Takes}
use Rattle.plan_files.proofs.reading.text_in.Given as goal

abbrev pub invariant-loop-room : goal.invariant-loop-room
invariant-loop-room g l = record {
  takes : Takes (g.F.Source.holds l.fn.files l.name) (g.F.Source.left l.files) l.bytes.items;
  holds : (other : List ℕ) → g.F.Source.holds l.files other ≡ g.F.Source.holds l.fn.files other;
  faults : g.F.Source.faults l.files ≡ g.F.Source.faults l.fn.files;
  room : length l.room ≡ 4096;
}

abbrev pub decreases-loop-room : goal.decreases-loop-room
decreases-loop-room g l = l.longest + 1 - length l.bytes.items
