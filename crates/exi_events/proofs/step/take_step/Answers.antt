use Rattle.std.proofs.Common.{arith}
use Rattle.exi_events.proofs.Limits.{few_code_bits}
use Rattle.exi_events.proofs.step.take_step.Goals as goal

pub take_number-requires : goal.take_number-requires
take_number-requires g c = few_code_bits _ _ c.codes-codes.ensures.width (omega (arith, c.codes-codes.ensures.offered, c.codes-codes.type_inv))
