-- ISO 15118-2:2014, EVSEIDType: a text of at most 37 characters.
use Rattle.std.specs.Prelude.{ℕ, ◌≤◌, Bool, ◌||◌, nat_lt, nat_le, List, length, count_by}

-- a byte of UTF-8 that begins a code point
abbrev pub begins_point : ℕ → Bool
begins_point byte = nat_lt byte 128 || nat_le 192 byte

abbrev pub code_points : List ℕ → ℕ
code_points text = count_by begins_point text

abbrev pub IsEvseText : List ℕ → Type 0
IsEvseText text = (length text ≤ 148) × (code_points text ≤ 37)
