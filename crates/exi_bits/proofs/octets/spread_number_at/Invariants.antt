use Rattle.std.proofs.Common.{◌-◌, ◌≤◌}
use Rattle.exi_spec.specs.Bits.{bits_of}
use Rattle.exi_bits.proofs.Windows.{ReadParts}
use Rattle.exi_bits.proofs.octets.spread_number_at.Given as goal

abbrev pub invariant-loop-read : goal.invariant-loop-read
invariant-loop-read l = record { within : l.read ≤ l.n; parts : ReadParts (bits_of l.payload) l.bit l.read l.value }

abbrev pub decreases-loop-read : goal.decreases-loop-read
decreases-loop-read l = l.n - l.read
