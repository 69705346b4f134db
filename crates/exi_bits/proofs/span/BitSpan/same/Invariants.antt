use Rattle.std.proofs.Common.{◌≡◌, ◌↔◌, length}
use Rattle.exi_bits.specs.Lent.{items_of}
use Rattle.exi_bits.proofs.span.BitSpan.same.Given as goal

-- what is left of both is the same exactly where all is
abbrev pub invariant-loop-item : goal.invariant-loop-item
invariant-loop-item l = record {
  long : length l.mine ≡ length l.theirs;
  same : (l.mine ≡ l.theirs) ↔ (items_of l.fn.self ≡ items_of l.fn.other);
}

abbrev pub decreases-loop-item : goal.decreases-loop-item
decreases-loop-item l = length l.mine
