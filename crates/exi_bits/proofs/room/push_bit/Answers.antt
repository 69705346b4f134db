use Rattle.std.proofs.Common.{ℕ, Bool, List, ap, subst, ◌∙◌}
use Rattle.exi_spec.specs.Bits.{number_bits}
use Rattle.exi_bits.specs.Written.{Extends}
use Rattle.exi_bits.proofs.Parts.{one_bit}
use Rattle.exi_bits.proofs.room.push_bit.Goals as goal

pub returns : goal.returns
returns c =
    subst (λ (l : List Bool). Extends c.args.room.now c.put_part.new.room c.args.at 1 l)
    (ap (λ (n : ℕ). number_bits 1 n) c.from.ensures ∙ one_bit c.args.bit)
    c.put_part.ensures
