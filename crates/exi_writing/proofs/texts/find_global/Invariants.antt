use Rattle.exi_bits.specs.Pens.{written_bits}
use Rattle.exi_reading.specs.Table.{global_of}
use Rattle.exi_reading.specs.Meaning.{texts_in}
use Rattle.exi_writing.specs.Source.{chars_of}
use Rattle.exi_writing.proofs.Found.{NotBefore}
use Rattle.exi_writing.proofs.texts.find_global.Given as goal

abbrev pub invariant-loop-i : goal.invariant-loop-i
invariant-loop-i l = NotBefore (global_of (texts_in (written_bits l.pen) l.table.entries)) (chars_of l.text) l.i
