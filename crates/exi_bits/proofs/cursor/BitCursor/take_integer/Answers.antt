use Rattle.std.proofs.Common.{◌+◌, ◌∙◌, rules}
use Rattle.std.proofs.lemmas.Int.{to_z-of_z}
use Rattle.std.specs.Int.{w128}
use Rattle.exi_spec.specs.Bits.{bits_of}
use Rattle.exi_bits.proofs.Taken.{took, integer_there}
use Rattle.exi_bits.proofs.cursor.BitCursor.take_integer.Goals as goal

pub returns-in-Ok-clause-ok : goal.returns-in-Ok-clause-ok
returns-in-Ok-clause-ok c =
    rw (← c.self.view_is) (took _ (bits_of c.self.inside.payload.now) c.self.inside.place (1 + c.in-Ok.bits)
    (integer_there (bits_of c.self.inside.payload.now) c.self.inside.place c.in-Ok.bits c.in-Ok.magnitude c.bit_at-negative.result _
    c.bit_at-negative.ensures c.in-Ok.ensures.found (to_z-of_z w128 c.signed.result (search rules) ∙ c.signed.ensures)))
