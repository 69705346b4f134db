-- Numbers where a cursor stands: each number's text is taken whole, and each fault is at the first character that no number has there.
use Rattle.std.proofs.Common.{◌≡◌, ℕ, zero, suc, ◌<◌, ◌≤◌, ◌^◌, ℤ, pos, negsuc, false, List, [], ◌∷◌, ◌++◌, length, get_or, drop, refl, sym, ap, ap₂, subst, ◌∙◌, arith, to_z, of_z, ◌-ℤ◌}
use Rattle.std.specs.Prelude.{◌==◌, encode_utf8}
use Rattle.std.specs.Char.{is_ascii_digit}
use Rattle.std.specs.Fmt.{decimal, signed_decimal}
use Rattle.std.specs.Int.{IsInRange, is_in_range, w128}
use Rattle.std.specs.Str.{encode_utf8_all}
use Rattle.std.proofs.lemmas.Bool.Decides.{nat_tests}
use Rattle.std.proofs.lemmas.Fmt.{decimal_digit}
use Rattle.std.proofs.lemmas.Int.{ints, to_z-of_z, to_z_pos}
use Rattle.std.proofs.lemmas.List.{append-nil, get_or_append_left, nil_from_length}
use Rattle.std.proofs.lemmas.Str.{char_from_byte, encode_ascii}
use Rattle.value_text.specs.declared.cursor.TextCursor.{TextCursor}
use Rattle.value_text.specs.Forms.{IsNumberText, NoneNext, EndsDigits}
use Rattle.value_text.specs.Scanning.{Passes, Takes, GoesWrong}
use Rattle.value_text.specs.ValueText.{IsShort}
use Rattle.value_text.proofs.FrontLaws.{Stops, passes_none, passes_on, takes_where_it_stops, wrong_where_it_stops}
use Rattle.value_text.proofs.NextLaws.{some_bytes}
use Rattle.value_text.proofs.Numerals.{encodes_decimal, some_digit, no_leading_zero, digit_inside}

-- ---- the first byte

starts_with_digit : (n : ℕ) (rest : List ℕ) → n < 10 ^ 20 → 48 ≤ get_or (decimal n ++ rest) 0 0
starts_with_digit zero rest small = rw (decimal_digit 0 (omega arith)) (omega arith)
starts_with_digit (suc n) rest small =
    rw (get_or_append_left (decimal (suc n)) rest 0 0 (some_digit (suc n) small)) (omega (arith, no_leading_zero (suc n) (omega arith) small))

-- a sign is no digit
no_sign : (n : ℕ) (rest more : List ℕ) → n < 10 ^ 20 → decimal n ++ rest ≡ 45 ∷ more → ⊥
no_sign n rest more small e = let first : get_or (decimal n ++ rest) 0 0 ≡ 45 = ap (λ (bs : List ℕ). get_or bs 0 0) e in omega (arith, first, starts_with_digit n rest small)

pub no_sign_alone : (n : ℕ) (more : List ℕ) → n < 10 ^ 20 → decimal n ≡ 45 ∷ more → ⊥
no_sign_alone n more small e = no_sign n [] more small (append-nil (decimal n) ∙ e)

-- no two digits where the first is 0
no_zero_more : (n c : ℕ) (after : List ℕ) → n < 10 ^ 20 → decimal n ≡ 48 ∷ (encode_utf8 c ++ after) → ⊥
no_zero_more zero c after small e =
    let inside = digit_inside zero (48 ∷ []) c after small e in
    let long : length (decimal zero) ≡ 1 = ap length (decimal_digit 0 (omega arith)) in
    let longer : length (decimal zero) ≡ suc (length (encode_utf8 c ++ after)) = ap length e in
    let none : length (encode_utf8 c ++ after) ≡ 0 = omega (arith, long, longer) in
    some_bytes c after (nil_from_length (encode_utf8 c ++ after) none)
no_zero_more (suc n) c after small e =
    let first : get_or (decimal (suc n)) 0 0 ≡ 48 = ap (λ (bs : List ℕ). get_or bs 0 0) e in omega (arith, first, no_leading_zero (suc n) (omega arith) small)

-- the first digit of a number above 0
first_inside : (n c : ℕ) (after : List ℕ) → 0 < n → n < 10 ^ 20 → decimal n ≡ encode_utf8 c ++ after → IsInRange 49 57 c
first_inside n c after some small e =
    let inside = digit_inside n [] c after small e in
    let above = no_leading_zero n some small in
    let far : get_or (decimal n) 0 0 ≡ get_or (encode_utf8 c ++ after) 0 0 = ap (λ (bs : List ℕ). get_or bs 0 0) e in
    let alone : encode_utf8 c ++ after ≡ c ∷ after = ap (λ (bs : List ℕ). bs ++ after) (encode_ascii c (omega (arith, inside.0.1))) in
    let is : get_or (encode_utf8 c ++ after) 0 0 ≡ c = ap (λ (bs : List ℕ). get_or bs 0 0) alone in
    (omega (arith, above, far, is), inside.0.1)

digit_test : (c : ℕ) → IsInRange 48 57 c → is_ascii_digit c ≡ false → ⊥
digit_test c in_range fails = grind arith

positive_test : (c : ℕ) → IsInRange 49 57 c → is_in_range 49 57 c ≡ false → ⊥
positive_test c in_range fails = grind arith

-- behind the digits there is no digit that a number has there
no_more : (n m c : ℕ) (rest more after : List ℕ) → m < 10 ^ 20 → EndsDigits n rest → rest ≡ encode_utf8 c ++ more → decimal m ≡ decimal n ++ (encode_utf8 c ++ after) → ⊥
no_more n m c rest more after small ends there e =
    let inside = digit_inside m (decimal n) c after small e in
    digit_test c inside.0 (ends inside.1 c more there)

minus : encode_utf8 45 ≡ 45 ∷ []
minus = encode_ascii 45 (omega arith)

nought : encode_utf8 48 ≡ 48 ∷ []
nought = encode_ascii 48 (omega arith)

-- ---- a number above 0

stops_behind_digits : (n : ℕ) (rest : List ℕ) → 0 < n → n < 10 ^ 20 → EndsDigits n rest → Stops IsNumberText (decimal n) rest
stops_behind_digits n rest some small ends c more after there (pos m, short, e) =
    no_more n m c rest more after short ends there (sym e ∙ ap (λ (bs : List ℕ). bs ++ (encode_utf8 c ++ after)) (encodes_decimal n small))
stops_behind_digits n rest some small ends c more after there (negsuc m, short, e) =
    no_sign n (encode_utf8 c ++ after) (decimal (suc m)) small (sym (ap (λ (bs : List ℕ). bs ++ (encode_utf8 c ++ after)) (encodes_decimal n small)) ∙ e)

pub takes_positive : (a b : TextCursor) (n : ℕ) → 0 < n → n < 10 ^ 20 → Passes a (decimal n) b → EndsDigits n b.rest.now → Takes IsNumberText a (decimal n) b
takes_positive a b n some small passed ends =
    takes_where_it_stops IsNumberText a (decimal n) b passed (pos n, small, encodes_decimal n small) (stops_behind_digits n b.rest.now some small ends)

-- ---- a number below 0

signed_bytes : (n : ℕ) (rest : List ℕ) → n < 10 ^ 20 → encode_utf8_all (45 ∷ decimal n) ++ rest ≡ 45 ∷ (decimal n ++ rest)
signed_bytes n rest small = ap₂ (λ (front digits : List ℕ). (front ++ digits) ++ rest) minus (encodes_decimal n small)

stops_behind_signed : (n : ℕ) (rest : List ℕ) → n < 10 ^ 20 → EndsDigits n rest → Stops IsNumberText (45 ∷ decimal n) rest
stops_behind_signed n rest small ends c more after there (pos m, short, e) =
    no_sign_alone m (decimal n ++ (encode_utf8 c ++ after)) short (sym e ∙ signed_bytes n (encode_utf8 c ++ after) small)
stops_behind_signed n rest small ends c more after there (negsuc m, short, e) =
    let same : 45 ∷ (decimal n ++ (encode_utf8 c ++ after)) ≡ 45 ∷ decimal (suc m) = sym (signed_bytes n (encode_utf8 c ++ after) small) ∙ e in
    no_more n (suc m) c rest more after short ends there (ap (λ (bs : List ℕ). drop 1 bs) (sym same))

pub takes_negative : (a b d : TextCursor) (k : ℕ) → suc k < 10 ^ 20 → Passes a (45 ∷ []) b → Passes b (decimal (suc k)) d → EndsDigits (suc k) d.rest.now → Takes IsNumberText a (45 ∷ decimal (suc k)) d
takes_negative a b d k small sign passed ends =
    takes_where_it_stops IsNumberText a (45 ∷ decimal (suc k)) d (passes_on a b d (45 ∷ []) (decimal (suc k)) sign passed)
    (negsuc k, small, sym (append-nil _) ∙ signed_bytes (suc k) [] small ∙ ap (λ (bs : List ℕ). 45 ∷ bs) (append-nil (decimal (suc k))))
    (stops_behind_signed (suc k) d.rest.now small ends)

-- ---- 0

zero_bytes : (rest : List ℕ) → encode_utf8_all (48 ∷ []) ++ rest ≡ 48 ∷ rest
zero_bytes rest = ap (λ (bs : List ℕ). (bs ++ []) ++ rest) nought

stops_behind_zero : (rest : List ℕ) → Stops IsNumberText (48 ∷ []) rest
stops_behind_zero rest c more after there (pos m, short, e) = no_zero_more m c after short (sym e ∙ zero_bytes (encode_utf8 c ++ after))
stops_behind_zero rest c more after there (negsuc m, short, e) =
    let same : 48 ∷ (encode_utf8 c ++ after) ≡ 45 ∷ decimal (suc m) = sym (zero_bytes (encode_utf8 c ++ after)) ∙ e in
    let first : 48 ≡ 45 = ap (λ (bs : List ℕ). get_or bs 0 0) same in
    omega (arith, first)

pub takes_zero : (a b : TextCursor) → Passes a (48 ∷ []) b → Takes IsNumberText a (48 ∷ []) b
takes_zero a b passed =
    takes_where_it_stops IsNumberText a (48 ∷ []) b passed (pos 0, omega arith, sym (append-nil _) ∙ zero_bytes [] ∙ sym (decimal_digit 0 (omega arith))) (stops_behind_zero b.rest.now)

-- ---- none

sign_bytes : (rest : List ℕ) → encode_utf8_all (45 ∷ []) ++ rest ≡ 45 ∷ rest
sign_bytes rest = ap (λ (bs : List ℕ). (bs ++ []) ++ rest) minus

stops_behind_sign : (rest : List ℕ) → NoneNext (is_in_range 49 57) rest → Stops IsNumberText (45 ∷ []) rest
stops_behind_sign rest none c more after there (pos m, short, e) = no_sign_alone m (encode_utf8 c ++ after) short (sym e ∙ sign_bytes (encode_utf8 c ++ after))
stops_behind_sign rest none c more after there (negsuc m, short, e) =
    let same : 45 ∷ (encode_utf8 c ++ after) ≡ 45 ∷ decimal (suc m) = sym (sign_bytes (encode_utf8 c ++ after)) ∙ e in
    positive_test c (first_inside (suc m) c after (omega arith) short (ap (λ (bs : List ℕ). drop 1 bs) (sym same))) (none c more there)

sign_is_none : (text : List ℕ) → text ≡ 45 ∷ [] → IsNumberText text → ⊥
sign_is_none text is (pos m, short, e) = no_sign_alone m [] short (sym e ∙ is)
sign_is_none text is (negsuc m, short, e) =
    let same : 45 ∷ [] ≡ 45 ∷ decimal (suc m) = sym is ∙ e in
    let long : 1 ≡ suc (length (decimal (suc m))) = ap length same in
    omega (arith, long, some_digit (suc m) short)

pub wrong_behind_sign : (a b : TextCursor) → Passes a (45 ∷ []) b → NoneNext (is_in_range 49 57) b.rest.now → GoesWrong IsNumberText a b.place
wrong_behind_sign a b passed none =
    wrong_where_it_stops IsNumberText a (45 ∷ []) b passed (decimal 1, (negsuc 0, omega arith, sign_bytes (decimal 1)))
    (sign_is_none _ (sym (append-nil _) ∙ sign_bytes [])) (stops_behind_sign b.rest.now none)

digit_cases : (c : ℕ) → IsInRange 48 57 c → (c == 48) ≡ false → is_in_range 49 57 c ≡ false → ⊥
digit_cases c in_range not_zero fails = grind (arith, nat_tests)

stops_at_start : (rest : List ℕ) → NoneNext (λ d. d == 45) rest → NoneNext (is_in_range 49 57) rest → NoneNext (λ d. d == 48) rest → Stops IsNumberText [] rest
stops_at_start rest no_minus no_digit no_zero c more after there (pos m, short, e) =
    let inside = digit_inside m [] c after short (sym e) in
    digit_cases c inside.0 (no_zero c more there) (no_digit c more there)
stops_at_start rest no_minus no_digit no_zero c more after there (negsuc m, short, e) =
    let same : c ≡ 45 = char_from_byte (45 ∷ decimal (suc m)) after c (sym e) (omega arith) (omega arith) in
    let fails = no_minus c more there in
    grind (arith, nat_tests)

nothing_is_none : IsNumberText [] → ⊥
nothing_is_none (pos m, short, e) = omega (arith, some_digit m short, ap length e)
nothing_is_none (negsuc m, short, e) = let long : 0 ≡ suc (length (decimal (suc m))) = ap length e in omega (arith, long)

pub wrong_at_start : (a : TextCursor) → NoneNext (λ d. d == 45) a.rest.now → NoneNext (is_in_range 49 57) a.rest.now → NoneNext (λ d. d == 48) a.rest.now → GoesWrong IsNumberText a a.place
wrong_at_start a no_minus no_digit no_zero =
    wrong_where_it_stops IsNumberText a [] a (passes_none a) (decimal 0, (pos 0, omega arith, refl)) nothing_is_none (stops_at_start a.rest.now no_minus no_digit no_zero)

-- ---- as the numbers of the code

abbrev pub GivesNumber : TextCursor → ℤ → TextCursor → Type 0
GivesNumber a z b = (front : List ℕ) × Takes IsNumberText a front b × IsShort z × (encode_utf8_all front ≡ signed_decimal z)

widened : (n : ℕ) → n < 10 ^ 20 → to_z w128 n ≡ pos n
widened n small = to_z_pos w128 n (omega (arith, small))

taken_away : (k : ℕ) → pos 0 -ℤ pos (suc k) ≡ negsuc k
taken_away k = omega (arith, ints)

negated : (k : ℕ) → suc k < 10 ^ 20 → to_z w128 (of_z w128 (pos 0 -ℤ to_z w128 (suc k))) ≡ negsuc k
negated k small =
    ap (λ (z : ℤ). to_z w128 (of_z w128 (pos 0 -ℤ z))) (widened (suc k) small)
    ∙ ap (λ (z : ℤ). to_z w128 (of_z w128 z)) (taken_away k)
    ∙ to_z-of_z w128 (negsuc k) (record { sfits = omega (arith, small) })

pub gives_positive : (a b d : TextCursor) (n : ℕ) → 0 < n → n < 10 ^ 20 → d ≡ a → Passes d (decimal n) b → EndsDigits n b.rest.now → GivesNumber a (to_z w128 n) b
gives_positive a b d n some small stays passed ends =
    rw (widened n small) (decimal n, takes_positive a b n some small (subst (λ (x : TextCursor). Passes x (decimal n) b) stays passed) ends, small, encodes_decimal n small)

pub gives_negative : (a b d : TextCursor) (n : ℕ) → 0 < n → n < 10 ^ 20 → Passes a (45 ∷ []) b → Passes b (decimal n) d → EndsDigits n d.rest.now → GivesNumber a (to_z w128 (of_z w128 (pos 0 -ℤ to_z w128 n))) d
gives_negative a b d zero some small sign passed ends = absurd (omega (arith, some))
gives_negative a b d (suc k) some small sign passed ends =
    rw (negated k small) (45 ∷ decimal (suc k), takes_negative a b d k small sign passed ends, small, sym (append-nil _) ∙ signed_bytes (suc k) [] small ∙ ap (λ (bs : List ℕ). 45 ∷ bs) (append-nil (decimal (suc k))))

pub gives_zero : (a b d : TextCursor) → d ≡ a → Passes d (48 ∷ []) b → GivesNumber a (pos 0) b
gives_zero a b d stays passed =
    (48 ∷ [], takes_zero a b (subst (λ (x : TextCursor). Passes x (48 ∷ []) b) stays passed), omega arith, sym (append-nil _) ∙ zero_bytes [] ∙ sym (decimal_digit 0 (omega arith)))

pub wrong_otherwise : (a b d : TextCursor) → b ≡ a → d ≡ b → NoneNext (λ c. c == 45) a.rest.now → NoneNext (is_in_range 49 57) b.rest.now → NoneNext (λ c. c == 48) b.rest.now → GoesWrong IsNumberText a d.place
wrong_otherwise a b d stays again no_minus no_digit no_zero =
    rw (again ∙ stays) (wrong_at_start a no_minus (subst (λ (x : TextCursor). NoneNext (is_in_range 49 57) x.rest.now) stays no_digit) (subst (λ (x : TextCursor). NoneNext (λ c. c == 48) x.rest.now) stays no_zero))
