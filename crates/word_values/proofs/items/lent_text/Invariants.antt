use Rattle.std.proofs.Common.{◌≡◌, ℕ, ◌-◌, ◌≤◌, List, ◌++◌, length}
use Rattle.std.specs.Char.{IsScalar}
use Rattle.std.specs.List.{AllByRecursion}
use Rattle.exi_bits.specs.Lent.{items_of}
use lib.Utf8.{encodes}
use Rattle.word_values.proofs.items.lent_text.Given as goal

pub record Kept (items text contents : List ℕ) (at : ℕ) : Type 0 where
  pub front : List ℕ
  pub parts : items ≡ front ++ contents
  pub text_is : text ≡ encodes front
  pub all_few : length items ≤ 37
  pub few : length contents ≤ 37 - at
  pub are_scalars : AllByRecursion (λ point. IsScalar point) contents

abbrev pub invariant-loop-at : goal.invariant-loop-at
invariant-loop-at l = Kept (items_of l.fn.span) l.text.bytes l.contents l._at
