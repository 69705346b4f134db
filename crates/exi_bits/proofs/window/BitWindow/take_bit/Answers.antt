use Rattle.exi_bits.proofs.Held.{bit_taken}
use Rattle.exi_bits.proofs.window.BitWindow.take_bit.Goals as goal

pub returns-clause-taken : goal.returns-clause-taken
returns-clause-taken c = bit_taken c.in_ok-bit.bit _ _ c.in_ok-bit.ensures.taken
