-- Reading a number.
use Rattle.std.proofs.Common.{◌≡◌, ◌≢◌, ℕ, zero, suc, ◌<◌, ◌≤◌, ◌^◌, ℤ, pos, negsuc, neg_ℤ, Bool, true, false, List, [], ◌∷◌, length, Option, Some, None, Result, Ok, Err, refl, sym, ap, subst, ◌∙◌, arith, rules, to_z, of_z}
use Rattle.std.specs.Prelude.{◌&&◌, nat_le, MatchOption, SomeIff, OkIff, int_lt}
use Rattle.std.specs.Bool.{MatchBool}
use Rattle.std.specs.Char.{is_ascii_digit}
use Rattle.std.specs.Int.{w32}
use Rattle.std.specs.Int.RustNames.{FitsSigned}
use Rattle.std.specs.List.{list_all}
use Rattle.std.specs.Result.{result_ok}
use Rattle.std.specs.Str.Parse.{AllDigits, IsNumeral, digits_value, ParsesSigned}
use Rattle.std.proofs.lemmas.Bool.{and_parts}
use Rattle.std.proofs.lemmas.Int.{to_z-of_z}
use Rattle.std.proofs.lemmas.Str.Parse.{IsDigitsTest, IsNumeralModel, numerals_by_value, tells_digits, digit_from_value, parse_signed_minus, parse_signed_digits}
use Rattle.service_spec.specs.Wants.{IsDigits, HasNumber}

-- ---- digits

tells_list_all : IsDigitsTest (λ ds. list_all is_ascii_digit ds ≡ true)
tells_list_all = search rules

by_test : IsNumeralModel (λ ds. list_all is_ascii_digit ds ≡ true) (digits_value 10)
by_test = numerals_by_value (λ ds. list_all is_ascii_digit ds ≡ true) tells_list_all

le_from_test : (a b : ℕ) → nat_le a b ≡ true → a ≤ b
le_from_test a b h = grind arith

test_from_le : (a b : ℕ) → a ≤ b → nat_le a b ≡ true
test_from_le a b h = grind arith

abbrev pub is_numeral : List ℕ → Bool
is_numeral ds = list_all is_ascii_digit ds && (nat_le 1 (length ds) && nat_le (length ds) 20)

digits_from_test : (ds : List ℕ) → is_numeral ds ≡ true → IsDigits ds
digits_from_test ds h =
    let parts = and_parts (list_all is_ascii_digit ds) (nat_le 1 (length ds) && nat_le (length ds) 20) h in
    let sizes = and_parts (nat_le 1 (length ds)) (nat_le (length ds) 20) parts.1 in
    ((le_from_test 1 (length ds) sizes.0, by_test.to ds parts.0), le_from_test (length ds) 20 sizes.1)

test_from_digits : (ds : List ℕ) → IsDigits ds → is_numeral ds ≡ true
test_from_digits ds is = rw (by_test.from ds is.0.1, test_from_le 1 (length ds) is.0.0, test_from_le (length ds) 20 is.1) refl

-- ---- what `parse` answers

own : IsNumeralModel (AllDigits 10) (digits_value 10)
own = numerals_by_value (AllDigits 10) tells_digits

some_if : {T E : Type 0} (r : Result T E) (P Q : Type 0) (v : T) → OkIff r P v → (P → Q) → (Q → P) → SomeIff (result_ok r) Q v
some_if (Ok x) P Q v h f g = (f h.0, h.1)
some_if (Err e) P Q v h f g = λ q. h (g q)

pub parsed_plain : {E : Type 0} (ds : List ℕ) (r : Result ℤ E) → ParsesSigned w32 10 ds r → IsNumeral 10 ds
    → SomeIff (result_ok r) (digits_value 10 ds < 2 ^ 31) (pos (digits_value 10 ds))
parsed_plain ds r h is = some_if r _ _ _ (parse_signed_digits own w32 ds r h is.1) (λ p. p.1) (λ q. (is.0, q))

pub parsed_minus : {E : Type 0} (bs ds : List ℕ) (r : Result ℤ E) → ParsesSigned w32 10 bs r → bs ≡ 45 ∷ ds → IsNumeral 10 ds
    → SomeIff (result_ok r) (digits_value 10 ds ≤ 2 ^ 31) (neg_ℤ (pos (digits_value 10 ds)))
parsed_minus bs ds r h e is =
    some_if r _ _ _ (parse_signed_minus own w32 (45 ∷ ds) r (subst (λ (l : List ℕ). ParsesSigned w32 10 l r) e h) refl) (λ p. p.2) (λ q. (is.1, is.0, q))

-- ---- which numbers a text may spell

clash : true ≡ false → ⊥
clash e = subst (λ (b : Bool). MatchBool b (Unit {0}) ⊥) e tt

abbrev IsOf : List ℕ → ℤ → Type 0
IsOf text z = FitsSigned w32 z × HasNumber z text

abbrev HasNone : List ℕ → Type 0
HasNone text = (z : ℤ) → FitsSigned w32 z → HasNumber z text → ⊥

-- the digits of a negative number of 32 bits, and of another
record IsMinus (ds : List ℕ) : Type 0 where
  digits : IsDigits ds
  small : digits_value 10 ds ≤ 2 ^ 31

record IsPlain (ds : List ℕ) : Type 0 where
  digits : IsDigits ds
  small : digits_value 10 ds < 2 ^ 31

minus_is : (z : ℤ) (ds : List ℕ) → FitsSigned w32 z → HasNumber z (45 ∷ ds) → IsMinus ds
minus_is (pos n) ds fits h = absurd (omega (arith, digit_from_value 45 h.0.0.1.0))
minus_is (negsuc n) ds fits h = record { digits = h.1.0; small = omega (arith, h.1.1, fits.sfits) }

plain_is : (z : ℤ) (ds : List ℕ) → ((t : List ℕ) → ds ≢ 45 ∷ t) → FitsSigned w32 z → HasNumber z ds → IsPlain ds
plain_is (pos n) ds none fits h = record { digits = h.0; small = omega (arith, h.1, fits.sfits) }
plain_is (negsuc n) [] none fits h = absurd h
plain_is (negsuc n) (c ∷ ds) none fits h = absurd (none ds (ap (λ (x : ℕ). x ∷ ds) h.0))

minus_in : (z : ℤ) (bs ds : List ℕ) → bs ≡ 45 ∷ ds → FitsSigned w32 z → HasNumber z bs → IsMinus ds
minus_in z bs ds e fits h = minus_is z ds fits (subst (HasNumber z) e h)

-- ---- a number behind a `-`

pub minus_bad : (bs ds : List ℕ) → bs ≡ 45 ∷ ds → is_numeral ds ≡ false → HasNone bs
minus_bad bs ds e bad z fits h = clash (sym (test_from_digits ds (minus_in z bs ds e fits h).digits) ∙ bad)

spelled_minus : (k : ℕ) (ds : List ℕ) → IsDigits ds → digits_value 10 ds ≡ k → k ≤ 2 ^ 31 → int_lt (neg_ℤ (pos k)) (pos 0) ≡ true → IsOf (45 ∷ ds) (neg_ℤ (pos k))
spelled_minus zero ds is e le lt = absurd (clash (sym lt))
spelled_minus (suc k) ds is e le lt = (record { sfits = omega (arith, le) }, (refl, (is, e)))

negative_fits : (k : ℕ) → k ≤ 2 ^ 31 → FitsSigned w32 (neg_ℤ (pos k))
negative_fits zero le = record { sfits = omega arith }
negative_fits (suc k) le = record { sfits = omega (arith, le) }

minus_good : (bs ds : List ℕ) (number : ℤ) → bs ≡ 45 ∷ ds → IsDigits ds → digits_value 10 ds ≤ 2 ^ 31 → number ≡ neg_ℤ (pos (digits_value 10 ds))
    → int_lt number (pos 0) ≡ true → IsOf bs number
minus_good bs ds number e is le value lt =
    subst (λ (l : List ℕ). IsOf l number) (sym e)
    (subst (IsOf (45 ∷ ds)) (sym value) (spelled_minus (digits_value 10 ds) ds is refl le (ap (λ (n : ℤ). int_lt n (pos 0)) (sym value) ∙ lt)))

-- what was read is as a signed value is passed
number_back : (ds : List ℕ) (number : ℤ) → digits_value 10 ds ≤ 2 ^ 31 → number ≡ neg_ℤ (pos (digits_value 10 ds)) → to_z w32 (of_z w32 number) ≡ number
number_back ds number le value = to_z-of_z w32 number (subst (FitsSigned w32) (sym value) (negative_fits (digits_value 10 ds) le))

pub minus_read : (bs ds : List ℕ) (number : ℤ) → bs ≡ 45 ∷ ds → is_numeral ds ≡ true
    → (IsNumeral 10 ds → (digits_value 10 ds ≤ 2 ^ 31) × (number ≡ neg_ℤ (pos (digits_value 10 ds)))) → int_lt (to_z w32 (of_z w32 number)) (pos 0) ≡ true
    → IsOf bs (to_z w32 (of_z w32 number))
minus_read bs ds number e is told lt =
    let got = told (digits_from_test ds is).0 in
    let back = number_back ds number got.0 got.1 in
    subst (IsOf bs) (sym back) (minus_good bs ds number e (digits_from_test ds is) got.0 got.1 (ap (λ (n : ℤ). int_lt n (pos 0)) (sym back) ∙ lt))

-- ---- another number

pub plain_bad : (ds : List ℕ) → ((t : List ℕ) → ds ≢ 45 ∷ t) → is_numeral ds ≡ false → HasNone ds
plain_bad ds none bad z fits h = clash (sym (test_from_digits ds (plain_is z ds none fits h).digits) ∙ bad)

pub plain_read : (ds : List ℕ) (r : Option ℤ) → ((t : List ℕ) → ds ≢ 45 ∷ t) → is_numeral ds ≡ true
    → (IsNumeral 10 ds → SomeIff r (digits_value 10 ds < 2 ^ 31) (pos (digits_value 10 ds))) → MatchOption r (HasNone ds) (λ z. IsOf ds z)
plain_read ds None none is told = λ z fits h. told (digits_from_test ds is).0 (plain_is z ds none fits h).small
plain_read ds (Some z) none is told =
    let got = told (digits_from_test ds is).0 in
    subst (IsOf ds) (sym got.1) (record { sfits = got.0 }, (digits_from_test ds is, refl))
