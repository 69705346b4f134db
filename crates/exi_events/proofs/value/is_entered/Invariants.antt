use Rattle.std.proofs.Common.{◌≡◌, ℕ, List}
use Rattle.exi_spec.specs.Bits.{bits_of}
use Rattle.exi_writing.specs.Table.{global_of}
use Rattle.exi_writing.specs.Trees.{Text}
use Rattle.exi_writing.specs.Meaning.{texts_in, value_of}
use Rattle.exi_writing.proofs.Found.{NotBefore}
use Rattle.exi_events.proofs.value.is_entered.Given as goal

abbrev pub invariant-loop-i : goal.invariant-loop-i
invariant-loop-i l = (text : List ℕ) → value_of l.value ≡ Text text → NotBefore (global_of (texts_in (bits_of l.written) l.table.entries)) text l.i
