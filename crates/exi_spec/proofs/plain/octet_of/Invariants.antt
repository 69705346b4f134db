use Rattle.std.proofs.Common.{◌≡◌, take}
use Rattle.exi_spec.specs.Bits.{number_of}
use Rattle.exi_spec.proofs.plain.octet_of.Given as goal

abbrev pub invariant-loop-bit : goal.invariant-loop-bit
invariant-loop-bit l = l.value ≡ number_of (take l.bit-index l.bits)
