-- How a text is cut into its words.
use Rattle.std.proofs.Common.{◌≡◌, ℕ, ◌+◌, ◌<◌, Bool, false, not, ◌==◌, List, [], ◌∷◌, length, take, drop, get_or, arith}
use Rattle.std.specs.List.{slice_split, position_or_len}
use Rattle.std.proofs.lemmas.List.Splits.{slice_split_first, slice_split_none}
use Rattle.std.proofs.lemmas.List.Elements.{All-from_get_or}
use Rattle.std.proofs.lemmas.List.Sums.{prefix_len_passes}
use Rattle.std.proofs.lemmas.Bool.{not-true}

abbrev pub is_space : ℕ → Bool
is_space byte = byte == 32

-- a text without a space is one word
pub cut_none : (text : List ℕ) → position_or_len is_space text ≡ length text → slice_split is_space text ≡ text ∷ []
cut_none text e =
    slice_split_none is_space text (All-from_get_or (λ byte. is_space byte ≡ false) text 0 (λ i lt. not-true (is_space (get_or text i 0)) (prefix_len_passes (λ byte. not (is_space byte)) text i 0 (omega (arith, e)))))

-- the first word ends at the first space
pub cut_first : (text : List ℕ) → position_or_len is_space text < length text
    → slice_split is_space text ≡ take (position_or_len is_space text) text ∷ slice_split is_space (drop (position_or_len is_space text + 1) text)
cut_first text lt = slice_split_first is_space text 0 lt
