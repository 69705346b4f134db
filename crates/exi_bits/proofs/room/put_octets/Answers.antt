use Rattle.std.proofs.Common.{Bool, List, subst, arith}
use Rattle.exi_bits.specs.Written.{Extends}
use Rattle.exi_bits.proofs.Shortest.{one_octet, shortest_long}
use Rattle.exi_bits.proofs.room.put_octets.Goals as goal

pub returns-then-value-lt128 : goal.returns-then-value-lt128
returns-then-value-lt128 c =
    subst (λ (l : List Bool). Extends c.args.room.now c.put_octet.new.room c.args.at 8 l) (one_octet c.args.value c.if-value-lt128.true) c.put_octet.ensures

pub put_octet-requires-clause-within : goal.put_octet-requires-clause-within
put_octet-requires-clause-within c = omega (arith, c.requires.within, shortest_long 9 c.args.value)
