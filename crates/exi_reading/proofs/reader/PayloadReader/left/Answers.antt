use Rattle.std.proofs.Common.{◌≡◌, ◌*◌, length, arith, ap, ◌∙◌}
use Rattle.std.proofs.lemmas.List.{length-drop}
use Rattle.exi_spec.proofs.BitLaws.{length-bits_of}
use Rattle.exi_reading.proofs.reader.PayloadReader.left.Goals as goal

pub overflow_sub-result : goal.overflow_sub-result
overflow_sub-result c =
    let long : length c.self.inside.cursor.bits ≡ 8 * length c.self.inside.payload.now = ap length c.self.invariant.1 ∙ length-bits_of c.self.inside.payload.now in
    omega arith

pub returns : goal.returns
returns c =
    let long : length c.self.inside.cursor.bits ≡ 8 * length c.self.inside.payload.now = ap length c.self.invariant.1 ∙ length-bits_of c.self.inside.payload.now in
    rw (← c.self.view_is) (omega (arith, length-drop c.self.inside.cursor.place c.self.inside.cursor.bits))
