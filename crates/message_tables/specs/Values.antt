-- Own: values of words in elements, as both dialects have them.
use Rattle.std.specs.Prelude.{ℕ, min, fold, map, List, [], ◌∷◌, get_or}
use Rattle.std.specs.List.{range_with_len}
use Rattle.session_words.specs.declared.amount.Amount.{Amount}
use Rattle.session_words.specs.declared.limits.Tuple.{Tuple}
use Rattle.word_values.specs.Items.{fitting}
use Rattle.word_tables.specs.Tables.{Table, inside, ordinal, bytes, simple, holding, meaning, nothing, once, each, ◌▷◌}

-- one of these names, in order of their ordinals. An ordinal past them is the first
abbrev pub one_of_names : {E : Type 0} → List E → E → (E → ℕ) → ℕ → Table inside E
one_of_names names first number kind = meaning (λ k. get_or names k first) number (simple ordinal kind)

-- no more bytes than these
abbrev pub some_bytes : ℕ → ℕ → Table inside (List ℕ)
some_bytes most kind = meaning (fitting most) (λ xs. xs) (simple bytes kind)

-- an element that has one other alone
abbrev pub only : {X : Type 0} → ℕ → Table inside X → Table inside X
only name table = meaning (λ x. x.0) (λ x. (x, tt)) (holding (once name table ▷ nothing))

-- an element that has one other from so many to so many times
abbrev pub list_of : {X : Type 0} → ℕ → ℕ → ℕ → Table inside X → Table inside (List X)
list_of name least most table = meaning (λ x. x.0) (λ xs. (xs, tt)) (holding (each name least most table ▷ nothing))

-- ---- an entry of a schedule: from which second on, and the power

abbrev pub Entry : Type 0
Entry = (ℕ × Unit {0}) × (Amount × Unit {0})

-- those of a tuple, from one second to the next, each of its power
abbrev pub entries_of : Tuple → List Entry
entries_of t = map (λ k. ((k, tt), (t.least, tt))) (range_with_len 0 t.entries)

-- the least number of a list, 0 of none
abbrev pub least_of : List ℕ → ℕ
least_of [] = 0
least_of (n ∷ ns) = fold min n ns
