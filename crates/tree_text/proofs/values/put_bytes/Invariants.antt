use Rattle.std.proofs.Common.{◌≡◌, ◌<◌, ◌++◌, length}
use Rattle.std.specs.List.{AllByRecursion}
use Rattle.std.specs.String.{string_bytes}
use Rattle.hex.specs.Hex.{encode_lower}
use Rattle.exi_bits.specs.Lent.{items_of}
use Rattle.tree_text.proofs.values.put_bytes.Given as goal

abbrev pub invariant-loop-byte : goal.invariant-loop-byte
invariant-loop-byte l =
    AllByRecursion (λ byte. byte < 256) l.contents
    × (string_bytes l.text ++ encode_lower l.contents ≡ string_bytes l.initial.text ++ encode_lower (items_of l.span))

abbrev pub decreases-loop-byte : goal.decreases-loop-byte
decreases-loop-byte l = length l.contents
