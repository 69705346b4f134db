-- Binaries where a cursor stands.
use Rattle.std.proofs.Common.{◌≡◌, ℕ, zero, suc, ◌+◌, ◌*◌, ◌/◌, ◌%◌, ◌<◌, Bool, true, false, ◌&&◌, List, [], ◌∷◌, ◌++◌, length, get_or, inl, inr, refl, sym, ap, ap₂, subst, ◌∙◌, append_assoc, arith}
use Rattle.std.specs.Prelude.{◌==◌, encode_utf8, slice_index}
use Rattle.std.specs.Char.{digit_char}
use Rattle.std.specs.List.{AllByRecursion}
use Rattle.std.specs.Str.{encode_utf8_all}
use Rattle.std.proofs.lemmas.Bool.{and_parts, cases_lt, eqb-true}
use Rattle.std.proofs.lemmas.Bool.Decides.{nat_tests}
use Rattle.std.proofs.lemmas.List.{length-append, nil_from_length}
use Rattle.std.proofs.lemmas.Str.{char_from_byte, encode_ascii}
use Rattle.hex.specs.Hex.{encode_lower, encode_with, lower_digits}
use Rattle.hex.proofs.HexLemmas.{length-encode_with}
use Rattle.value_text.specs.declared.cursor.TextCursor.{TextCursor}
use Rattle.value_text.specs.Forms.{IsBytesText, NoneNext, is_lower_digit}
use Rattle.value_text.specs.Scanning.{Passes, Takes, GoesWrong}
use Rattle.value_text.proofs.FrontLaws.{Stops, passes_on, takes_where_it_stops, wrong_where_it_stops}
use Rattle.value_text.proofs.NextLaws.{some_bytes}

-- ---- the digits

abbrev digits_fit : ℕ → Bool
digits_fit zero = true
digits_fit (suc n) = (slice_index lower_digits n == digit_char n) && digits_fit n

digit_fits : (n k : ℕ) → digits_fit n ≡ true → k < n → slice_index lower_digits k ≡ digit_char k
digit_fits zero k h lt = absurd (omega arith)
digit_fits (suc n) k h lt =
    let parts = and_parts (slice_index lower_digits n == digit_char n) (digits_fit n) h in
    elim (cases_lt k n) [
      | inl below ↦ digit_fits n k parts.1 below
      | inr top ↦ let e : k ≡ n = omega arith in rw e (eqb-true _ _ parts.0)
    ]

pub digit_is : (k : ℕ) → k < 16 → slice_index lower_digits k ≡ digit_char k
digit_is k lt = digit_fits 16 k refl lt

lower_test : (k : ℕ) → k < 16 → is_lower_digit (digit_char k) ≡ true
lower_test k lt = grind (arith, nat_tests)

pub is_lower : (k : ℕ) → k < 16 → is_lower_digit (slice_index lower_digits k) ≡ true
is_lower k lt = rw (digit_is k lt) (lower_test k lt)

lower_ascii : (c : ℕ) → is_lower_digit c ≡ true → c < 128
lower_ascii c h = grind (arith, nat_tests)

-- ---- their texts

abbrev AreBytes : List ℕ → Type 0
AreBytes bytes = AllByRecursion (λ byte. byte < 256) bytes

abbrev AreLower : List ℕ → Type 0
AreLower text = AllByRecursion (λ c. is_lower_digit c ≡ true) text

all_lower : (bytes : List ℕ) → AreBytes bytes → AreLower (encode_lower bytes)
unfolding encode_with
all_lower [] all = tt
all_lower (b ∷ bytes) all = (is_lower (b / 16) (omega (arith, all.0)), (is_lower (b % 16) (omega arith), all_lower bytes all.1))

encodes_lower : (text : List ℕ) → AreLower text → encode_utf8_all text ≡ text
encodes_lower [] all = refl
encodes_lower (c ∷ text) all = ap₂ (λ (xs ys : List ℕ). xs ++ ys) (encode_ascii c (lower_ascii c all.0)) (encodes_lower text all.1)

lower_behind : (front back : List ℕ) → AreLower (front ++ back) → AreLower back
lower_behind [] back all = all
lower_behind (c ∷ front) back all = lower_behind front back all.1

first_lower : (text : List ℕ) → 0 < length text → AreLower text → is_lower_digit (get_or text 0 0) ≡ true
first_lower [] some all = absurd (omega (arith, some))
first_lower (c ∷ text) some all = all.0

next_lower : (c : ℕ) (rest : List ℕ) → AreLower (encode_utf8 c ++ rest) → is_lower_digit c ≡ true
next_lower c rest all =
    let some : 0 < length (encode_utf8 c ++ rest) = elim (cases_lt 0 (length (encode_utf8 c ++ rest))) [
      | inl lt ↦ lt
      | inr none ↦ absurd (some_bytes c rest (nil_from_length (encode_utf8 c ++ rest) (omega (arith, none))))
    ] in
    let passes = first_lower (encode_utf8 c ++ rest) some all in
    let same : c ≡ get_or (encode_utf8 c ++ rest) 0 0 = char_from_byte (encode_utf8 c ++ rest) rest c refl (lower_ascii _ passes) some in
    rw same passes

byte_behind : (bytes : List ℕ) (b : ℕ) → encode_lower (bytes ++ b ∷ []) ≡ encode_lower bytes ++ slice_index lower_digits (b / 16) ∷ slice_index lower_digits (b % 16) ∷ []
unfolding encode_with
byte_behind [] b = refl
byte_behind (a ∷ bytes) b = ap (λ (text : List ℕ). slice_index lower_digits (a / 16) ∷ slice_index lower_digits (a % 16) ∷ text) (byte_behind bytes b)

pub bytes_behind : (bytes : List ℕ) (b : ℕ) → AreBytes bytes → b < 256 → AreBytes (bytes ++ b ∷ [])
bytes_behind [] b all small = (small, tt)
bytes_behind (a ∷ bytes) b all small = (all.0, bytes_behind bytes b all.1 small)

-- ---- where a cursor stands

abbrev pub ReadsBytes : TextCursor → List ℕ → TextCursor → Type 0
ReadsBytes a bytes b = AreBytes bytes × Passes a (encode_lower bytes) b

pub reads_none : (a : TextCursor) (bytes : List ℕ) → bytes ≡ [] → ReadsBytes a bytes a
unfolding encode_with
reads_none a bytes is = rw is (tt, record { stands = refl; counted = omega arith })

pub reads_more : (a b c d : TextCursor) (bytes more : List ℕ) (high low byte : ℕ) → ReadsBytes a bytes b → high < 16 → low < 16 → Passes b (slice_index lower_digits high ∷ []) c → Passes c (slice_index lower_digits low ∷ []) d
    → byte ≡ high * 16 + low → more ≡ bytes ++ byte ∷ [] → ReadsBytes a more d
reads_more a b c d bytes more high low byte reads is_high is_low first second is all =
    let top : byte / 16 ≡ high = omega (arith, is, is_low) in
    let bottom : byte % 16 ≡ low = omega (arith, is, is_low) in
    let written : encode_lower more ≡ encode_lower bytes ++ slice_index lower_digits high ∷ slice_index lower_digits low ∷ [] =
    ap encode_lower all ∙ byte_behind bytes byte ∙ ap₂ (λ (t o : ℕ). encode_lower bytes ++ slice_index lower_digits t ∷ slice_index lower_digits o ∷ []) top bottom in (
      rw all (bytes_behind bytes byte reads.0 (omega (arith, is, is_high, is_low))),
      rw written (passes_on a b d (encode_lower bytes) (slice_index lower_digits high ∷ slice_index lower_digits low ∷ []) reads.1
          (passes_on b c d (slice_index lower_digits high ∷ []) (slice_index lower_digits low ∷ []) first second)),
    )

stops_at_other : (front rest : List ℕ) → encode_utf8_all front ≡ front → NoneNext is_lower_digit rest → Stops IsBytesText front rest
stops_at_other front rest same none c more after there one =
    let whole : front ++ (encode_utf8 c ++ after) ≡ encode_lower one.0 = ap (λ (bs : List ℕ). bs ++ (encode_utf8 c ++ after)) (sym same) ∙ one.2 in
    let lower = next_lower c after (lower_behind front (encode_utf8 c ++ after) (subst AreLower (sym whole) (all_lower one.0 one.1))) in
    let fails = none c more there in
    let wrong : true ≡ false = sym lower ∙ fails in
    absurd cc

abbrev pub GivesBytes : TextCursor → List ℕ → TextCursor → Type 0
GivesBytes a bytes b = (front : List ℕ) × Takes IsBytesText a front b × AllByRecursion (λ byte. byte < 256) bytes × (encode_utf8_all front ≡ encode_lower bytes)

pub takes_bytes : (a b c : TextCursor) (bytes : List ℕ) → ReadsBytes a bytes b → c ≡ b → NoneNext is_lower_digit b.rest.now → GivesBytes a bytes c
takes_bytes a b c bytes reads stays none =
    let same = encodes_lower (encode_lower bytes) (all_lower bytes reads.0) in
    rw stays (encode_lower bytes, takes_where_it_stops IsBytesText a (encode_lower bytes) b reads.1 (bytes, reads.0, same) (stops_at_other (encode_lower bytes) b.rest.now same none), reads.0, same)

lower_push : (text : List ℕ) (c : ℕ) → AreLower text → is_lower_digit c ≡ true → AreLower (text ++ c ∷ [])
lower_push [] c all is = (is, tt)
lower_push (d ∷ text) c all is = (all.0, lower_push text c all.1 is)

odd_is_none : (bytes others : List ℕ) (digit : ℕ) → encode_lower bytes ++ digit ∷ [] ≡ encode_lower others → ⊥
odd_is_none bytes others digit e =
    omega (arith, ap length e, length-append (encode_lower bytes) (digit ∷ []), length-encode_with lower_digits bytes, length-encode_with lower_digits others)

pub wrong_odd : (a b c d : TextCursor) (bytes : List ℕ) (high : ℕ) → ReadsBytes a bytes b → high < 16 → Passes b (slice_index lower_digits high ∷ []) c → d ≡ c → NoneNext is_lower_digit c.rest.now → GoesWrong IsBytesText a d.place
wrong_odd a b c d bytes high reads is_high first stays none =
    let front = encode_lower bytes ++ slice_index lower_digits high ∷ [] in
    let same = encodes_lower front (lower_push (encode_lower bytes) (slice_index lower_digits high) (all_lower bytes reads.0) (is_lower high is_high)) in
    let top : (high * 16) / 16 ≡ high = omega arith in
    let bottom : (high * 16) % 16 ≡ 0 = omega arith in
    let begun : encode_utf8_all front ++ slice_index lower_digits 0 ∷ [] ≡ encode_lower (bytes ++ high * 16 ∷ []) =
    ap (λ (bs : List ℕ). bs ++ slice_index lower_digits 0 ∷ []) same ∙ append_assoc (encode_lower bytes) (slice_index lower_digits high ∷ []) (slice_index lower_digits 0 ∷ [])
    ∙ ap₂ (λ (t o : ℕ). encode_lower bytes ++ slice_index lower_digits t ∷ slice_index lower_digits o ∷ []) (sym top) (sym bottom) ∙ sym (byte_behind bytes (high * 16)) in
    rw stays (wrong_where_it_stops IsBytesText a front c (passes_on a b c (encode_lower bytes) (slice_index lower_digits high ∷ []) reads.1 first)
    (slice_index lower_digits 0 ∷ [], (bytes ++ high * 16 ∷ [], bytes_behind bytes (high * 16) reads.0 (omega (arith, is_high)), begun))
    (λ one. odd_is_none bytes one.0 (slice_index lower_digits high) (sym same ∙ one.2))
    (stops_at_other front c.rest.now same none))
