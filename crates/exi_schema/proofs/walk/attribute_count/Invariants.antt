use Rattle.std.proofs.Common.{◌≡◌, ◌+◌, length, drop}
use Rattle.exi_schema.specs.Offers.{through_required}
use Rattle.exi_schema.proofs.walk.attribute_count.Given as goal

abbrev pub invariant-loop-i : goal.invariant-loop-i
invariant-loop-i l = l.i + length (through_required (drop l.i l.attributes)) ≡ length (through_required l.attributes)
