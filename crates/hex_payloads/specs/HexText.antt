-- Own: hexadecimal text. Two digits are a byte, the high four bits first; a digit is of either case. A text has at most 131,072
-- characters.
use Rattle.std.specs.Prelude.{◌≡◌, ℕ, ◌%◌, ◌==◌, nat_lt, Bool, not, if◌then◌else◌, List, length, position, Option, Some, None, Ok}
use Rattle.std.specs.Char.{is_ascii_hexdigit}
use Rattle.std.specs.Option.{option_or}
use Rattle.std.specs.Str.{chars}
use Rattle.hex.specs.Hex.{decode_of}
use Rattle.hex_payloads.specs.declared.hex_text.HexFault.{HexFault}
use Rattle.hex_payloads.specs.declared.hex_text.HexFault.TheVariants.{Place, Memory}

abbrev pub is_no_digit : ℕ → Bool
is_no_digit character = not (is_ascii_hexdigit character)

abbrev pub excess : ℕ → Option ℕ
excess count = if nat_lt 131072 count then Some 131072 else None

-- what is wrong with a text, by its characters. The first of these that applies: their number where that is odd; the place from
-- 0 of the first one that is no digit; 131,072 where there are more than that
abbrev pub hex_fault : List ℕ → Option ℕ
hex_fault characters =
    if length characters % 2 == 1 then Some (length characters)
    else option_or (position is_no_digit characters) (excess (length characters))

-- a text spells bytes
pub record IsHexOf (text bytes : List ℕ) : Type 0 where
  pub right : hex_fault (chars text) ≡ None
  pub spelled : decode_of text ≡ Ok bytes

-- why a text has none. Want of memory comes freely
abbrev pub IsHexFault : List ℕ → HexFault → Type 0
IsHexFault text (Place place) = hex_fault (chars text) ≡ Some place
IsHexFault text Memory = Unit {0}
