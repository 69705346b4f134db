-- The words of lower-case hexadecimal are those that bytes have.
use Rattle.std.proofs.Common.{◌≡◌, ℕ, zero, suc, ◌+◌, ◌*◌, ◌/◌, ◌%◌, ◌-◌, ◌^◌, ◌<◌, ◌≤◌, true, List, [], ◌∷◌, length, get_or, ◌⊎◌, inl, inr, Result, Ok, Err, refl, sym, ap, subst, ◌∙◌, arith}
use Rattle.std.specs.Prelude.{MatchResult}
use Rattle.std.specs.Int.{w64, to_be_bytes, from_be_bytes}
use Rattle.std.specs.List.{list_all, AllByRecursion}
use Rattle.std.proofs.lemmas.Bool.{and_parts}
use Rattle.std.proofs.lemmas.Nat.{be_bytes_8, from_be_bytes-to_be_bytes_8}
use Rattle.hex.specs.Hex.{IsBytes, encode_lower, encode_with, lower_digits, decode_of, decode_sized}
use Rattle.hex.specs.declared.error.FromHexError.{FromHexError}
use Rattle.hex.proofs.HexLemmas.{length-encode_with, decode_of-encode_lower, decode_of-same, decode_sized-encode_lower, decode_sized-ok, decode_sized-twice}
use Rattle.text_tokens.specs.Words.{is_lower_digit, IsHex, identifier_text}

decimal_digit : (c : ℕ) → 48 ≤ c → c ≤ 57 → get_or lower_digits (c - 48) 0 ≡ c
decimal_digit c low high = grind arith

letter_digit : (c : ℕ) → 97 ≤ c → c ≤ 102 → get_or lower_digits (c - 87) 0 ≡ c
letter_digit c low high = grind arith

digit_value : (c : ℕ) → is_lower_digit c ≡ true → (v : ℕ) × (v < 16) × (get_or lower_digits v 0 ≡ c)
digit_value c h =
    let bounds : ((48 ≤ c) × (c ≤ 57)) ⊎ ((97 ≤ c) × (c ≤ 102)) = grind arith in
    elim bounds [
      | inl b ↦ (c - 48, omega arith, decimal_digit c b.0 b.1)
      | inr b ↦ (c - 87, omega arith, letter_digit c b.0 b.1)
    ]

digit_at : (k : ℕ) → k < 16 → is_lower_digit (get_or lower_digits k 0) ≡ true
digit_at k lt = grind arith

byte_first : (b : ℕ) (bytes : List ℕ) → b < 256 → IsBytes bytes → IsBytes (b ∷ bytes)
byte_first b bytes small fits zero = small
byte_first b bytes small fits (suc i) = fits i

-- pairs of digits are spelled by their bytes
pub spelled : (s : List ℕ) → list_all is_lower_digit s ≡ true → length s % 2 ≡ 0 → IsHex s
unfolding encode_with
spelled [] all even = ([], (λ i. omega arith), refl)
spelled (a ∷ []) all even = absurd (omega arith)
spelled (a ∷ b ∷ rest) all even =
    let first = and_parts _ _ all in
    let second = and_parts _ _ first.1 in
    let high = digit_value a first.0 in
    let low = digit_value b second.0 in
    let more = spelled rest second.1 (omega (arith, even)) in
    let byte = high.0 * 16 + low.0 in
    let front : byte / 16 ≡ high.0 = omega (arith, high.1, low.1) in
    let back : byte % 16 ≡ low.0 = omega (arith, high.1, low.1) in
    (byte ∷ more.0, byte_first byte more.0 (omega (arith, high.1, low.1)) more.1, rw (front, back, high.2, low.2, ← more.2) refl)

-- and bytes spell pairs of digits
pub digits : (bytes : List ℕ) → IsBytes bytes → list_all is_lower_digit (encode_lower bytes) ≡ true
unfolding encode_with
digits [] fits = refl
digits (b ∷ bytes) fits =
    let byte : b < 256 = fits 0 in
    let high = digit_at (b / 16) (omega arith) in
    let low = digit_at (b % 16) (omega arith) in
    rw (high, low, digits bytes (λ i. fits (suc i))) refl

pub length_hex : (bytes : List ℕ) → length (encode_lower bytes) ≡ 2 * length bytes
length_hex bytes = length-encode_with lower_digits bytes

-- ---- identifiers

each_byte : (bytes : List ℕ) → AllByRecursion (λ b. b < 256) bytes → IsBytes bytes
each_byte [] all = λ i. omega arith
each_byte (b ∷ bytes) all = byte_first b bytes all.0 (each_byte bytes all.1)

pub eight_bytes : (n : ℕ) → IsBytes (to_be_bytes w64 n)
eight_bytes n =
    each_byte (to_be_bytes w64 n) (omega arith, (omega arith, (omega arith, (omega arith, (omega arith, (omega arith, (omega arith, (omega arith, tt))))))))

-- what decoding gives
pub read_back : (word bytes : List ℕ) → IsHex word → decode_of word ≡ Ok bytes → IsBytes bytes × (word ≡ encode_lower bytes)
read_back word bytes is read =
    let same : is.0 ≡ bytes = decode_of-same word is.0 bytes (ap decode_of is.2 ∙ decode_of-encode_lower is.0 is.1) read in
    (subst IsBytes same is.1, is.2 ∙ ap encode_lower same)

of_eight : (bytes : List ℕ) → length bytes ≡ 8 → IsBytes bytes → encode_lower bytes ≡ identifier_text (from_be_bytes w64 bytes)
of_eight bytes eight fits = ap encode_lower (sym (be_bytes_8 bytes _ eight fits refl))

-- what decoding into a room answers
abbrev pub Answers : Result (List ℕ) FromHexError → Result Unit FromHexError → List ℕ → Type 0
Answers read result out = MatchResult read (λ bytes. (result ≡ Ok tt) × (out ≡ bytes)) (λ e. result ≡ Err e)

sized : (read : Result (List ℕ) FromHexError) (out : List ℕ) → Answers read (Ok tt) out → read ≡ Ok out
sized (Ok bytes) out h = ap Ok (sym h.1)
sized (Err e) out h = absurd cc

pub identifier_of : (word out : List ℕ) → IsHex word → Answers (decode_sized word 8) (Ok tt) out → word ≡ identifier_text (from_be_bytes w64 out)
identifier_of word out is answers =
    let read = sized (decode_sized word 8) out answers in
    let sixteen = decode_sized-ok word 8 out read in
    let back = read_back word out is (sym (decode_sized-twice word 8 sixteen) ∙ read) in
    let eight : length out ≡ 8 = omega (arith, sixteen, ap length back.1, length_hex out) in
    back.1 ∙ of_eight out eight back.0

pub no_identifier : (word out : List ℕ) (e : FromHexError) (n : ℕ) → Answers (decode_sized word 8) (Err e) out → n < 2 ^ 64 → word ≡ identifier_text n → ⊥
no_identifier word out e n answers small spells =
    let read : decode_sized word 8 ≡ Ok (to_be_bytes w64 n) = rw spells (decode_sized-encode_lower (to_be_bytes w64 n) 8 refl (eight_bytes n)) in
    let both = subst (λ (r : Result (List ℕ) FromHexError). Answers r (Err e) out) read answers in
    cc both.0

-- ---- one text for each

pub hex_injective : (a b : List ℕ) → IsBytes a → IsBytes b → encode_lower a ≡ encode_lower b → a ≡ b
hex_injective a b fits_a fits_b e =
    decode_of-same (encode_lower b) a b (sym (ap decode_of e) ∙ decode_of-encode_lower a fits_a) (decode_of-encode_lower b fits_b)

pub identifier_injective : (m n : ℕ) → m < 2 ^ 64 → n < 2 ^ 64 → identifier_text m ≡ identifier_text n → m ≡ n
identifier_injective m n small_m small_n e =
    let same = hex_injective (to_be_bytes w64 m) (to_be_bytes w64 n) (eight_bytes m) (eight_bytes n) e in
    sym (from_be_bytes-to_be_bytes_8 m small_m) ∙ ap (from_be_bytes w64) same ∙ from_be_bytes-to_be_bytes_8 n small_n
