use Rattle.std.proofs.Common.{◌≡◌, ◌≤◌, drop}
use Rattle.exi_bits.specs.Pens.{written_bits}
use Rattle.exi_reading.specs.Table.{local_of}
use Rattle.exi_reading.specs.Meaning.{texts_in}
use Rattle.exi_writing.specs.Source.{chars_of}
use Rattle.exi_writing.proofs.Found.{NotBefore}
use Rattle.exi_writing.proofs.texts.find_local.Given as goal

abbrev pub invariant-loop-entry : goal.invariant-loop-entry
invariant-loop-entry l = record {
  few : l.index ≤ l.entry-index;
  left : local_of l.name (drop l.entry-index l.table.entries) ≡ drop l.index (local_of l.name l.table.entries);
  before : NotBefore (local_of l.name (texts_in (written_bits l.pen) l.table.entries)) (chars_of l.text) l.index;
}
