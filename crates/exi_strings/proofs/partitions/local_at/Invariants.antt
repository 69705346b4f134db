use Rattle.std.proofs.Common.{◌≡◌, drop}
use Rattle.std.specs.Prelude.{slice_get}
use Rattle.exi_strings.specs.Table.{local_of}
use Rattle.exi_strings.proofs.partitions.local_at.Given as goal

abbrev pub invariant-loop-entry : goal.invariant-loop-entry
invariant-loop-entry g l = slice_get (local_of l.name (drop l.entry-index l.entries)) l.left ≡ slice_get (local_of l.name l.entries) l.i
