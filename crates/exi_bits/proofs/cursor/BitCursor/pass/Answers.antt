use Rattle.std.proofs.Common.{◌≡◌, ◌*◌, length, ap, sym, ◌∙◌, arith}
use Rattle.exi_spec.proofs.BitLaws.{length-bits_of}
use Rattle.exi_bits.specs.Reading.{Cursor}
use Rattle.exi_bits.proofs.cursor.BitCursor.pass.Goals as goal

pub invariant_of-self : goal.invariant_of-self
invariant_of-self c =
    let same : length c.args.window.cursor.bits ≡ 8 * length c.self.inside.payload.now = ap length (c.requires ∙ sym (ap (λ (k : Cursor). k.bits) c.self.view_is)) ∙ length-bits_of c.self.inside.payload.now in (
      c.self.invariant.0,
      omega (arith, same, c.place-self-inside.ensures.within),
    )
