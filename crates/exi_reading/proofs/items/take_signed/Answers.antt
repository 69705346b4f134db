use Rattle.std.proofs.Common.{rules}
use Rattle.std.proofs.lemmas.Int.{to_z-of_z}
use Rattle.std.specs.Int.{w64, w128}
use Rattle.exi_reading.proofs.Parts.{refused_range}
use Rattle.exi_reading.proofs.items.take_signed.Goals as goal

pub returns-then-not-is_within-clause-refused : goal.returns-then-not-is_within-clause-refused
returns-then-not-is_within-clause-refused c =
    refused_range c.args.least c.args.most c.in_ok-value.value _ _ _ c.place-bit.result c.is_within.result _ _
    (to_z-of_z w64 c.args.least (search rules))
    (to_z-of_z w64 c.args.most (search rules))
    (to_z-of_z w128 c.in_ok-value.value (search rules))
    c.is_within.ensures c.if-not-is_within.true c.place-bit.ensures.place c.in_ok-value.ensures.ok
