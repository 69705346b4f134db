-- Own: the pieces of a word between `;`.
use Rattle.std.specs.Prelude.{ℕ, ◌==◌, List, [], Option, Some, None}
use Rattle.std.specs.Borrow.{Bor}
use Rattle.std.specs.List.{slice_split}

abbrev pub pieces_of : List ℕ → List (List ℕ)
pieces_of word = slice_split (λ byte. byte == 59) word

-- those of what is left of it, if anything is
abbrev pub pieces_left : Option (Bor (List ℕ)) → List (List ℕ)
pieces_left None = []
pieces_left (Some text) = pieces_of text.now
