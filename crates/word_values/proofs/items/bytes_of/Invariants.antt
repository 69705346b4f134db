use Rattle.std.proofs.Common.{◌≡◌, ℕ, ◌-◌, ◌<◌, ◌≤◌, List, ◌++◌, length}
use Rattle.std.specs.List.{AllByRecursion}
use Rattle.exi_bits.specs.Lent.{items_of}
use Rattle.word_values.proofs.items.bytes_of.Given as goal

pub record Kept (items bytes contents : List ℕ) (most at : ℕ) : Type 0 where
  pub parts : items ≡ bytes ++ contents
  pub all_few : length items ≤ most
  pub few : length contents ≤ most - at
  pub are_bytes : AllByRecursion (λ byte. byte < 256) contents

abbrev pub invariant-loop-at : goal.invariant-loop-at
invariant-loop-at g l = Kept (items_of l.fn.binary.span) l.bytes.items l.contents g.row.N l._at
