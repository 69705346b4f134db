use Rattle.std.proofs.Common.{◌+◌, ◌-◌, ◌*◌, ◌≤◌, length}
use Rattle.exi_spec.specs.Bits.{bits_of}
use Rattle.exi_bits.proofs.Steps.{CharsAt}
use Rattle.exi_bits.proofs.octets.ascii_front_at.Given as goal

abbrev pub invariant-loop-count : goal.invariant-loop-count
invariant-loop-count l = record {
  few : l.count ≤ l.n;
  within : l.bit + 8 * l.count ≤ 8 * length l.payload;
  chars : CharsAt (bits_of l.payload) l.bit l.count (8 * l.count);
}

abbrev pub decreases-loop-count : goal.decreases-loop-count
decreases-loop-count l = l.n - l.count
