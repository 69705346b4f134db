use Rattle.std.proofs.Common.{◌≡◌, [], drop, sym, ◌∙◌}
use Rattle.exi_spec.specs.Bits.{bits_of}
use Rattle.exi_bits.proofs.Items.{items_none}
use Rattle.exi_bits.proofs.contents.Contents.next.Goals as goal

pub returns-then-self-eq0 : goal.returns-then-self-eq0
returns-then-self-eq0 c =
    let none : c.args.self.now ≡ [] = sym c.self.view_is ∙ items_none c.self.inside.is_text c.self.inside.left (drop c.self.inside.bit (bits_of c.self.inside.payload.now)) c.if-self-eq0.true in
    (none, none)
