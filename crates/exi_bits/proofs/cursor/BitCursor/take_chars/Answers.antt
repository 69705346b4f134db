use Rattle.std.proofs.Common.{arith}
use Rattle.exi_spec.proofs.BitLaws.{length-bits_of}
use Rattle.exi_spec.specs.Bits.{bits_of}
use Rattle.exi_bits.proofs.Taken.{chars_took, text_held}
use Rattle.exi_bits.proofs.cursor.BitCursor.take_chars.Goals as goal

pub text_at-span-requires-clause-spelled : goal.text_at-span-requires-clause-spelled
text_at-span-requires-clause-spelled c =
    let found = c.in-Ok.ensures.found in (
      found.0,
      text_held (bits_of c.self.inside.payload.now) c.self.inside.place c.args.n c.in-Ok.bits found
          (omega (arith, length-bits_of c.self.inside.payload.now, c.self.invariant)),
    )

pub returns-in-Ok-clause-ok : goal.returns-in-Ok-clause-ok
returns-in-Ok-clause-ok c =
    rw (← c.self.view_is, c.text_at-span.ensures) (chars_took (bits_of c.self.inside.payload.now) c.self.inside.place c.args.n c.in-Ok.bits c.in-Ok.ensures.found
    (omega (arith, length-bits_of c.self.inside.payload.now, c.self.invariant)))
