-- Own: which names and texts parameters may have.
use Rattle.std.specs.Prelude.{ℕ, ◌==◌, ◌&&◌, ◌||◌, nat_le, not, Bool, List, length}
use Rattle.std.specs.List.{list_all}
use Rattle.std.specs.Str.{chars}

-- a letter, a digit or `_`
abbrev pub is_name_byte : ℕ → Bool
is_name_byte c = (nat_le 48 c && nat_le c 57) || (nat_le 65 c && nat_le c 90) || (nat_le 97 c && nat_le c 122) || (c == 95)

-- a name of some length
abbrev pub is_word : List ℕ → Bool
is_word name = list_all is_name_byte name

abbrev pub has_name_length : List ℕ → Bool
has_name_length name = nat_le 1 (length name) && nat_le (length name) 64

abbrev pub is_a_name : List ℕ → Bool
is_a_name name = is_word name && has_name_length name

-- no `"` and no `;`
abbrev pub is_text_byte : ℕ → Bool
is_text_byte c = not (c == 34) && not (c == 59)

-- a text of some length
abbrev pub is_plain : List ℕ → Bool
is_plain text = list_all is_text_byte text

-- in characters
abbrev pub has_text_length : List ℕ → Bool
has_text_length text = nat_le (length (chars text)) 64

abbrev pub is_a_text : List ℕ → Bool
is_a_text text = is_plain text && has_text_length text
