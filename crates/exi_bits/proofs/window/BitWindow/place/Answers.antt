use Rattle.std.proofs.Common.{arith}
use Rattle.exi_spec.proofs.BitLaws.{length-bits_of}
use Rattle.exi_bits.proofs.window.BitWindow.place.Goals as goal

pub returns-clause-within : goal.returns-clause-within
returns-clause-within c = rw (← c.self.view_is) (omega (arith, length-bits_of c.self.inside.payload.now, c.self.invariant))

pub returns-clause-room : goal.returns-clause-room
returns-clause-room c = rw (← c.self.view_is) (omega (arith, length-bits_of c.self.inside.payload.now, c.self.invariant))
