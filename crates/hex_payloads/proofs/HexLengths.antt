-- How many bytes a hexadecimal text has.
use Rattle.std.proofs.Common.{◌≡◌, ℕ, ◌<◌, ◌≤◌, ◌%◌, ◌==◌, Bool, true, false, cond, List, length, position, Option, Some, None, arith, ap}
use Rattle.std.specs.Option.{option_or}
use Rattle.std.specs.Str.{chars}
use Rattle.std.proofs.lemmas.Bool.Decides.{nat_tests}
use Rattle.std.proofs.lemmas.List.Elements.{All-weaker}
use Rattle.std.proofs.lemmas.Str.{chars-IsAscii}
use Rattle.std.proofs.lemmas.Str.Ascii.{IsAscii-from_all}
use Rattle.hex.specs.Hex.{is_hex_digit}
use Rattle.hex.proofs.HexLemmas.{decode_of-ok}
use Rattle.hex_payloads.specs.HexText.{excess, is_no_digit, IsHexOf}

is_hex_digit-ascii : (c : ℕ) → is_hex_digit c ≡ true → c < 128
is_hex_digit-ascii c h = grind arith

not_in_excess : (place : Option ℕ) (n : ℕ) → option_or place (excess n) ≡ None → n ≤ 131072
not_in_excess None n h = grind (arith, nat_tests)
not_in_excess (Some k) n h = cc h

not_longer : (is_odd : Bool) (place : Option ℕ) (n : ℕ) → cond is_odd (Some n) (option_or place (excess n)) ≡ None → n ≤ 131072
not_longer true place n h = cc h
not_longer false place n h = not_in_excess place n h

pub length_hex : (text bytes : List ℕ) → IsHexOf text bytes → length bytes ≤ 65536
length_hex text bytes h =
    let ok = decode_of-ok text bytes h.spelled in
    let ascii = IsAscii-from_all text (All-weaker (λ c. is_hex_digit c ≡ true) (λ c. c < 128) is_hex_digit-ascii text ok.1) in
    let characters : chars text ≡ text = chars-IsAscii text ascii in
    let bound = not_longer (length (chars text) % 2 == 1) (position is_no_digit (chars text)) (length (chars text)) h.right in
    omega (arith, ok.2, ap length characters)
