use Rattle.std.proofs.Common.{◌≡◌, ◌+◌, ◌/◌, arith}
use Rattle.exi_bits.proofs.Penned.{holds_bits}
use Rattle.exi_bits.proofs.room.begun_bytes.Goals as goal

pub returns-clause-holds : goal.returns-clause-holds
returns-clause-holds c =
    let whole : c.div_ceil.result ≡ (c.args.bits + 7) / 8 = omega (arith, c.div_ceil.ensures) in
    holds_bits c.args.room.now c.args.bits c.div_ceil.result whole c.requires.within c.requires.clean
