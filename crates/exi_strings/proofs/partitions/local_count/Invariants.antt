use Rattle.std.proofs.Common.{◌≡◌, ◌+◌, ◌≤◌, length, drop}
use Rattle.exi_strings.specs.Table.{local_of}
use Rattle.exi_strings.proofs.partitions.local_count.Given as goal

abbrev pub invariant-loop-entry : goal.invariant-loop-entry
invariant-loop-entry g l = record {
  sum : l.count + length (local_of l.name (drop l.entry-index l.entries)) ≡ length (local_of l.name l.entries);
  few : l.count ≤ l.entry-index;
}
