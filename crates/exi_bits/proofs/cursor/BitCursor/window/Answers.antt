use Rattle.std.proofs.Common.{arith}
use Rattle.exi_spec.proofs.BitLaws.{length-bits_of}
use Rattle.exi_bits.proofs.cursor.BitCursor.window.Goals as goal

pub returns-clause-none : goal.returns-clause-none
returns-clause-none c = λ none. rw (← c.self.view_is) (grind (arith, length-bits_of c.self.inside.payload.now, c.at.ensures.none none))
