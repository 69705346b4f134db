use Rattle.std.proofs.Common.{◌≡◌, ◌++◌, length}
use Rattle.std.specs.Char.{IsScalar}
use Rattle.std.specs.List.{AllByRecursion, flat_map}
use Rattle.std.specs.String.{string_bytes}
use Rattle.exi_bits.specs.Lent.{items_of}
use Rattle.tree_text.specs.TreeText.{character_text}
use Rattle.tree_text.proofs.values.put_quoted.Given as goal

abbrev pub invariant-loop-character : goal.invariant-loop-character
invariant-loop-character l =
    AllByRecursion (λ character. IsScalar character) l.contents
    × (string_bytes l.text ++ flat_map character_text l.contents ≡ string_bytes l.initial.text ++ flat_map character_text (items_of l.span))

abbrev pub decreases-loop-character : goal.decreases-loop-character
decreases-loop-character l = length l.contents
