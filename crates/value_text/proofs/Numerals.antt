-- Decimal texts, digit by digit.
use Rattle.std.proofs.Common.{◌≡◌, ℕ, ◌+◌, ◌*◌, ◌/◌, ◌%◌, ◌^◌, ◌<◌, ◌≤◌, List, [], ◌∷◌, ◌++◌, length, get_or, refl, sym, ap, subst, ◌∙◌, add-one, arith}
use Rattle.std.specs.Prelude.{encode_utf8}
use Rattle.std.specs.Fmt.{decimal}
use Rattle.std.specs.Int.{IsInRange}
use Rattle.std.specs.Str.{encode_utf8_all}
use Rattle.std.proofs.lemmas.Fmt.{decimal_is_IsNumeral_wide, decimal_step_wide, decimal_digit, decimal_by_steps_wide, length-decimal-le_wide, IsAscii-decimal_wide}
use Rattle.std.proofs.lemmas.List.{length-append, get_or-append-add, get_or_append_left}
use Rattle.std.proofs.lemmas.Str.{encodes-IsAscii, char_from_byte, length-encode, len_utf8_bounds}
use Rattle.std.proofs.lemmas.Str.Parse.{digit_at}
use Rattle.std.proofs.Math.Nat.{pow-suc, pow-le-pow_right}
use Rattle.value_text.specs.declared.cursor.TextCursor.{TextCursor}
use Rattle.value_text.specs.Scanning.{Passes}
use Rattle.value_text.proofs.FrontLaws.{passes_on}

pub encodes_decimal : (n : ℕ) → n < 10 ^ 20 → encode_utf8_all (decimal n) ≡ decimal n
encodes_decimal n small = encodes-IsAscii (decimal n) (IsAscii-decimal_wide n (omega (arith, small)))

pub short_decimal : (n : ℕ) → n < 10 ^ 20 → length (decimal n) ≤ 20
short_decimal n small = length-decimal-le_wide 20 n (omega arith) small (omega (arith, small))

pub some_digit : (n : ℕ) → n < 10 ^ 20 → 0 < length (decimal n)
some_digit n small = (decimal_is_IsNumeral_wide n (omega (arith, small))).0.0

abbrev StartsAbove : ℕ → List ℕ → Type 0
StartsAbove n ds = (0 < length ds) × (0 < n → 48 < get_or ds 0 0)

starts_above : (n : ℕ) → n < 10 ^ 64 → StartsAbove n (decimal n)
starts_above = decimal_by_steps_wide StartsAbove
    (λ n small. (omega arith, λ some. omega (arith, some)))
    (λ n ds large h. (omega (arith, length-append ds ((48 + n % 10) ∷ [])), λ some. rw (get_or_append_left ds ((48 + n % 10) ∷ []) 0 0 h.0) (h.1 (omega (arith, large)))))

-- a number above 0 has no leading zero
pub no_leading_zero : (n : ℕ) → 0 < n → n < 10 ^ 20 → 48 < get_or (decimal n) 0 0
no_leading_zero n some small = (starts_above n (omega (arith, small))).1 some

-- one more digit
pub digit_more : (n d : ℕ) → 0 < n → d < 10 → n * 10 + d < 10 ^ 20 → decimal (n * 10 + d) ≡ decimal n ++ (48 + d) ∷ []
digit_more n d some digit small =
    let step = decimal_step_wide (n * 10 + d) (omega (arith, some)) (omega (arith, small)) in
    let high : (n * 10 + d) / 10 ≡ n = omega (arith, digit) in
    let low : (n * 10 + d) % 10 ≡ d = omega (arith, digit) in
    rw (high, low) at step

-- a character inside of a decimal text is a digit, and has at most 19 before it
pub digit_inside : (n : ℕ) (front : List ℕ) (c : ℕ) (rest : List ℕ) → n < 10 ^ 20 → decimal n ≡ front ++ (encode_utf8 c ++ rest) → IsInRange 48 57 c × (length front < 20)
digit_inside n front c rest small e =
    let wide = len_utf8_bounds c in
    let behind : 0 < length (encode_utf8 c ++ rest) = omega (arith, length-append (encode_utf8 c) rest, length-encode c, wide.0) in
    let long : length (decimal n) ≡ length front + length (encode_utf8 c ++ rest) = ap length e ∙ length-append front (encode_utf8 c ++ rest) in
    let all = (decimal_is_IsNumeral_wide n (omega (arith, small))).0.1 in
    let at = digit_at (decimal n) (length front) all (omega (arith, long, behind)) in
    let there : get_or (decimal n) (length front) 0 ≡ get_or (encode_utf8 c ++ rest) 0 0 =
    ap (λ (bs : List ℕ). get_or bs (length front) 0) e ∙ ap (λ (k : ℕ). get_or (front ++ (encode_utf8 c ++ rest)) k 0) (omega arith) ∙ get_or-append-add front (encode_utf8 c ++ rest) 0 0 in
    let same : c ≡ get_or (encode_utf8 c ++ rest) 0 0 = char_from_byte (encode_utf8 c ++ rest) rest c refl (omega (arith, at.1, there)) behind in
    ((omega (arith, at.0, same, there), omega (arith, at.1, same, there)), omega (arith, long, behind, short_decimal n small))

-- ---- digit by digit, as a cursor passes them

abbrev pub ReadsSoFar : TextCursor → ℕ → ℕ → TextCursor → Type 0
ReadsSoFar a n k b = (0 < n) × (n < 10 ^ k) × (length (decimal n) ≡ k) × Passes a (decimal n) b

pub first_digit : (a b : TextCursor) (d n : ℕ) → n ≡ d → (d ≡ 0 → ⊥) → d < 10 → Passes a ((48 + d) ∷ []) b → ReadsSoFar a n 1 b
first_digit a b d n is some digit passed =
    let written : decimal n ≡ (48 + d) ∷ [] = rw is (decimal_digit d digit) in
    (omega (arith, is, some), omega (arith, is, digit), ap length written, subst (λ (ds : List ℕ). Passes a ds b) (sym written) passed)

power_more : (k : ℕ) → 10 ^ (k + 1) ≡ 10 ^ k * 10
power_more k = ap (λ (j : ℕ). 10 ^ j) (add-one k) ∙ pow-suc 10 k

pub below_all : (n k : ℕ) → n < 10 ^ k → k ≤ 20 → n < 10 ^ 20
below_all n k small at = omega (arith, small, pow-le-pow_right {n = 10} (omega arith) {i = k} {j = 20} at)

pub next_digit : (a b c : TextCursor) (n d e k : ℕ) → ReadsSoFar a n k b → k < 20 → e ≡ d → d < 10 → Passes b ((48 + d) ∷ []) c → ReadsSoFar a (n * 10 + e) (k + 1) c
next_digit a b c n d e k sofar at is digit passed =
    let bound : n * 10 + d < 10 ^ (k + 1) = omega (arith, sofar.1, digit, power_more k) in
    let written : decimal (n * 10 + d) ≡ decimal n ++ (48 + d) ∷ [] = digit_more n d sofar.0 digit (below_all _ (k + 1) bound (omega (arith, at))) in
    let all : ReadsSoFar a (n * 10 + d) (k + 1) c = (
      omega (arith, sofar.0),
      bound,
      ap length written ∙ length-append (decimal n) ((48 + d) ∷ []) ∙ omega (arith, sofar.2),
      subst (λ (ds : List ℕ). Passes a ds c) (sym written) (passes_on a b c (decimal n) ((48 + d) ∷ []) sofar.3 passed),
    ) in
    subst (λ (m : ℕ). ReadsSoFar a (n * 10 + m) (k + 1) c) (sym is) all
