-- What stands behind a backslash where a cursor stands.
use Rattle.std.proofs.Common.{◌≡◌, ℕ, ◌+◌, ◌-◌, ◌/◌, ◌%◌, ◌<◌, ◌≤◌, true, false, List, [], ◌∷◌, ◌++◌, length, get_or, drop, ◌⊎◌, inl, inr, refl, sym, ap, ap₂, subst, ◌∙◌, arith}
use Rattle.std.specs.Prelude.{◌==◌, encode_utf8, slice_index}
use Rattle.std.specs.Char.{digit_char}
use Rattle.std.specs.Fmt.{digits}
use Rattle.std.specs.List.{AllByRecursion}
use Rattle.std.specs.Str.{encode_utf8_all}
use Rattle.std.proofs.lemmas.Bool.{cases_lt}
use Rattle.std.proofs.lemmas.Bool.Decides.{nat_tests}
use Rattle.std.proofs.lemmas.Fmt.{hex_one_digit, hex_two_digits}
use Rattle.std.proofs.lemmas.List.{append-nil}
use Rattle.std.proofs.lemmas.Str.{char_from_byte, encode_ascii}
use Rattle.hex.specs.Hex.{lower_digits}
use Rattle.value_text.specs.declared.cursor.TextCursor.{TextCursor}
use Rattle.value_text.specs.Forms.{IsNumbered, IsNumberedText, NoneNext, is_lower_digit}
use Rattle.value_text.specs.Fronts.{Begins}
use Rattle.value_text.specs.Scanning.{Passes, Takes, GoesWrong}
use Rattle.value_text.proofs.FrontLaws.{IsPrefixFree, passes_none, passes_on, takes_whole, wrong_where_it_stops}
use Rattle.value_text.proofs.HexTexts.{digit_is, is_lower}

-- ---- bytes of ASCII

pub encodes_ascii : (text : List ℕ) → AllByRecursion (λ c. c < 128) text → encode_utf8_all text ≡ text
encodes_ascii [] all = refl
encodes_ascii (c ∷ text) all = ap₂ (λ (xs ys : List ℕ). xs ++ ys) (encode_ascii c all.0) (encodes_ascii text all.1)

pub first_is : (c b : ℕ) (after xs : List ℕ) → encode_utf8 c ++ after ≡ b ∷ xs → b < 128 → c ≡ b
first_is c b after xs e small = char_from_byte (b ∷ xs) after c (sym e) small (omega arith)

head_is : (a b : ℕ) (xs ys : List ℕ) → a ∷ xs ≡ b ∷ ys → a ≡ b
head_is a b xs ys e = ap (λ (bs : List ℕ). get_or bs 0 0) e

tail_is : (a b : ℕ) (xs ys : List ℕ) → a ∷ xs ≡ b ∷ ys → xs ≡ ys
tail_is a b xs ys e = ap (λ (bs : List ℕ). drop 1 bs) e

-- ---- digits

abbrev pub low : ℕ → ℕ
low d = slice_index lower_digits d

char_range : (d : ℕ) → d < 16 → (48 ≤ digit_char d) × (digit_char d ≤ 102)
char_range d small = (grind (arith, nat_tests), grind (arith, nat_tests))

low_range : (d : ℕ) → d < 16 → (48 ≤ low d) × (low d ≤ 102)
low_range d small = rw (digit_is d small) (char_range d small)

char_one : (d : ℕ) → d < 16 → digit_char d ≡ 49 → d ≡ 1
char_one d small e = grind (arith, nat_tests)

low_one : (d : ℕ) → d < 16 → low d ≡ 49 → d ≡ 1
low_one d small e = char_one d small (sym (digit_is d small) ∙ e)

char_same : (d e : ℕ) → d < 16 → e < 16 → digit_char d ≡ digit_char e → d ≡ e
char_same d e is_d is_e same = grind (arith, nat_tests)

low_same : (d e : ℕ) → d < 16 → e < 16 → low d ≡ low e → d ≡ e
low_same d e is_d is_e same = char_same d e is_d is_e (sym (digit_is d is_d) ∙ same ∙ digit_is e is_e)

is_no_brace : (d : ℕ) → d < 16 → low d ≡ 125 → ⊥
is_no_brace d small e = omega (arith, e, (low_range d small).1)

-- ---- the number of a character

abbrev OneDigit : ℕ → List ℕ → Type 0
OneDigit c text = (d : ℕ) × (d < 16) × (c ≡ d) × (text ≡ low d ∷ 125 ∷ [])

abbrev TwoDigits : ℕ → List ℕ → Type 0
TwoDigits c text = (d : ℕ) × (d < 16) × (c ≡ 16 + d) × (text ≡ 49 ∷ low d ∷ 125 ∷ [])

one_digit_text : (d : ℕ) → d < 16 → digits 16 false d ++ 125 ∷ [] ≡ low d ∷ 125 ∷ []
one_digit_text d small = ap (λ (bs : List ℕ). bs ++ 125 ∷ []) (hex_one_digit false d small) ∙ ap (λ (g : ℕ). g ∷ 125 ∷ []) (sym (digit_is d small))

two_digit_text : (d : ℕ) → d < 16 → digits 16 false (16 + d) ++ 125 ∷ [] ≡ 49 ∷ low d ∷ 125 ∷ []
two_digit_text d small =
    let high : (16 + d) / 16 ≡ 1 = omega (arith, small) in
    let rest : (16 + d) % 16 ≡ d = omega (arith, small) in
    ap (λ (bs : List ℕ). bs ++ 125 ∷ []) (hex_two_digits false (16 + d) (omega arith) (omega (arith, small)))
    ∙ ap₂ (λ (h l : ℕ). digit_char h ∷ digit_char l ∷ 125 ∷ []) high rest ∙ ap (λ (g : ℕ). 49 ∷ g ∷ 125 ∷ []) (sym (digit_is d small))

pub numbered_low : (d : ℕ) → d < 16 → IsNumbered d (low d ∷ 125 ∷ [])
numbered_low d small = (omega (arith, small), sym (one_digit_text d small))

pub numbered_high : (d : ℕ) → d < 16 → IsNumbered (16 + d) (49 ∷ low d ∷ 125 ∷ [])
numbered_high d small = (omega (arith, small), sym (two_digit_text d small))

numbered_cases : (c : ℕ) (text : List ℕ) → IsNumbered c text → OneDigit c text ⊎ TwoDigits c text
numbered_cases c text is =
    elim (cases_lt c 16) [
      | inl small ↦ inl (c, small, refl, is.1 ∙ one_digit_text c small)
      | inr large ↦
          let small : c - 16 < 16 = omega (arith, is.0, large) in
          let whole : c ≡ 16 + (c - 16) = omega (arith, large) in
          inr (c - 16, small, whole, is.1 ∙ ap (λ (n : ℕ). digits 16 false n ++ 125 ∷ []) whole ∙ two_digit_text (c - 16) small)
    ]

-- the number that stands first is one
pub one_numbered : (c d : ℕ) (a b x y : List ℕ) → IsNumbered c a → IsNumbered d b → a ++ x ≡ b ++ y → (c ≡ d) × (x ≡ y)
one_numbered c d a b x y p q e =
    elim (numbered_cases c a p) [
      | inl one ↦ elim (numbered_cases d b q) [
        | inl other ↦
            let same : low one.0 ∷ 125 ∷ x ≡ low other.0 ∷ 125 ∷ y = ap (λ (bs : List ℕ). bs ++ x) (sym one.3) ∙ e ∙ ap (λ (bs : List ℕ). bs ++ y) other.3 in
            (one.2 ∙ low_same one.0 other.0 one.1 other.1 (head_is _ _ _ _ same) ∙ sym other.2, tail_is _ _ _ _ (tail_is _ _ _ _ same))
        | inr other ↦
            let same : low one.0 ∷ 125 ∷ x ≡ 49 ∷ low other.0 ∷ 125 ∷ y = ap (λ (bs : List ℕ). bs ++ x) (sym one.3) ∙ e ∙ ap (λ (bs : List ℕ). bs ++ y) other.3 in
            absurd (is_no_brace other.0 other.1 (sym (head_is _ _ _ _ (tail_is _ _ _ _ same))))
      ]
      | inr one ↦ elim (numbered_cases d b q) [
        | inl other ↦
            let same : 49 ∷ low one.0 ∷ 125 ∷ x ≡ low other.0 ∷ 125 ∷ y = ap (λ (bs : List ℕ). bs ++ x) (sym one.3) ∙ e ∙ ap (λ (bs : List ℕ). bs ++ y) other.3 in
            absurd (is_no_brace one.0 one.1 (head_is _ _ _ _ (tail_is _ _ _ _ same)))
        | inr other ↦
            let same : 49 ∷ low one.0 ∷ 125 ∷ x ≡ 49 ∷ low other.0 ∷ 125 ∷ y = ap (λ (bs : List ℕ). bs ++ x) (sym one.3) ∙ e ∙ ap (λ (bs : List ℕ). bs ++ y) other.3 in
            let digit = low_same one.0 other.0 one.1 other.1 (head_is _ _ _ _ (tail_is _ _ _ _ same)) in
            (one.2 ∙ ap (λ (n : ℕ). 16 + n) digit ∙ sym other.2, tail_is _ _ _ _ (tail_is _ _ _ _ (tail_is _ _ _ _ same)))
      ]
    ]

numbered_free : IsPrefixFree IsNumberedText
numbered_free x y p q = (one_numbered p.0 q.0 x (x ++ y) y [] p.1 q.1 (sym (append-nil (x ++ y)))).1

abbrev pub GivesNumbered : TextCursor → ℕ → TextCursor → Type 0
GivesNumbered a c b = (front : List ℕ) × Takes IsNumberedText a front b × IsNumbered c (encode_utf8_all front)

low_ascii : (d : ℕ) → d < 16 → low d < 128
low_ascii d small = omega (arith, (low_range d small).1)

encodes_one : (d : ℕ) → d < 16 → encode_utf8_all (low d ∷ 125 ∷ []) ≡ low d ∷ 125 ∷ []
encodes_one d small = encodes_ascii (low d ∷ 125 ∷ []) (low_ascii d small, (omega arith, tt))

encodes_two : (d : ℕ) → d < 16 → encode_utf8_all (49 ∷ low d ∷ 125 ∷ []) ≡ 49 ∷ low d ∷ 125 ∷ []
encodes_two d small = encodes_ascii (49 ∷ low d ∷ 125 ∷ []) (omega arith, (low_ascii d small, (omega arith, tt)))

pub numbered_ascii : (c : ℕ) (text : List ℕ) → IsNumbered c text → AllByRecursion (λ c. c < 128) text
numbered_ascii c text is =
    elim (numbered_cases c text is) [
      | inl p ↦ subst (AllByRecursion (λ c. c < 128)) (sym p.3) (low_ascii p.0 p.1, (omega arith, tt))
      | inr p ↦ subst (AllByRecursion (λ c. c < 128)) (sym p.3) (omega arith, (low_ascii p.0 p.1, (omega arith, tt)))
    ]

pub takes_one_digit : (a b d : TextCursor) (digit : ℕ) → digit < 16 → Passes a (low digit ∷ []) b → Passes b (125 ∷ []) d → GivesNumbered a digit d
takes_one_digit a b d digit small first brace =
    let is : IsNumbered digit (encode_utf8_all (low digit ∷ 125 ∷ [])) = rw (encodes_one digit small) (numbered_low digit small) in
    (low digit ∷ 125 ∷ [], takes_whole IsNumberedText a (low digit ∷ 125 ∷ []) d numbered_free (passes_on a b d (low digit ∷ []) (125 ∷ []) first brace) (digit, is), is)

pub takes_two_digits : (a b d e : TextCursor) (high digit : ℕ) → high ≡ 1 → digit < 16 → Passes a (low high ∷ []) b → Passes b (low digit ∷ []) d → Passes d (125 ∷ []) e → GivesNumbered a (16 + digit) e
takes_two_digits a b d e high digit one small first second brace =
    let is : IsNumbered (16 + digit) (encode_utf8_all (49 ∷ low digit ∷ 125 ∷ [])) = rw (encodes_two digit small) (numbered_high digit small) in
    let passed : Passes a (49 ∷ []) b = subst (λ (n : ℕ). Passes a (low n ∷ []) b) one first in (
      49 ∷ low digit ∷ 125 ∷ [],
      takes_whole IsNumberedText a (49 ∷ low digit ∷ 125 ∷ []) e numbered_free
          (passes_on a b e (49 ∷ []) (low digit ∷ 125 ∷ []) passed (passes_on b d e (low digit ∷ []) (125 ∷ []) second brace)) (16 + digit, is),
      is,
    )

lower_fails : (d c : ℕ) → d < 16 → c ≡ low d → is_lower_digit c ≡ false → ⊥
lower_fails d c small e fails = let wrong : true ≡ false = sym (is_lower d small) ∙ ap is_lower_digit (sym e) ∙ fails in absurd cc

char_fails : (c d : ℕ) → c ≡ d → (c == d) ≡ false → ⊥
char_fails c d e fails = grind (arith, nat_tests)

-- no digit
pub no_number : (a b : TextCursor) → b ≡ a → NoneNext is_lower_digit a.rest.now → GoesWrong IsNumberedText a b.place
no_number a b stays none =
    rw stays (wrong_where_it_stops IsNumberedText a [] a (passes_none a) (low 0 ∷ 125 ∷ [], (0, numbered_low 0 (omega arith)))
    (λ one. elim (numbered_cases one.0 [] one.1) [ inl p ↦ omega (arith, ap length p.3) | inr p ↦ omega (arith, ap length p.3) ])
    (λ c more after there one. elim (numbered_cases one.0 (encode_utf8 c ++ after) one.1) [
      | inl p ↦ lower_fails p.0 c p.1 (first_is c (low p.0) after (125 ∷ []) p.3 (low_ascii p.0 p.1)) (none c more there)
      | inr p ↦ lower_fails 1 c (omega arith) (first_is c 49 after (low p.0 ∷ 125 ∷ []) p.3 (omega arith)) (none c more there)
    ]))

digit_bytes : (d : ℕ) (rest : List ℕ) → d < 16 → encode_utf8_all (low d ∷ []) ++ rest ≡ low d ∷ rest
digit_bytes d rest small = ap (λ (bs : List ℕ). bs ++ rest) (encodes_ascii (low d ∷ []) (low_ascii d small, tt))

digit_is_none : (d : ℕ) → d < 16 → IsNumberedText (encode_utf8_all (low d ∷ [])) → ⊥
digit_is_none d small one =
    let is : encode_utf8_all (low d ∷ []) ≡ low d ∷ [] = encodes_ascii (low d ∷ []) (low_ascii d small, tt) in
    elim (numbered_cases one.0 _ one.1) [ inl p ↦ omega (arith, ap length (sym is ∙ p.3)) | inr p ↦ omega (arith, ap length (sym is ∙ p.3)) ]

digit_begins : (d : ℕ) → d < 16 → Begins IsNumberedText (low d ∷ [])
digit_begins d small = (125 ∷ [], (d, rw (digit_bytes d (125 ∷ []) small) (numbered_low d small)))

-- a digit that is no 1, and no brace
pub no_brace : (a b d : TextCursor) (digit : ℕ) → digit < 16 → (digit ≡ 1 → ⊥) → Passes a (low digit ∷ []) b → d ≡ b → NoneNext (λ c. c == 125) b.rest.now → GoesWrong IsNumberedText a d.place
no_brace a b d digit small differs first stays none =
    rw stays (wrong_where_it_stops IsNumberedText a (low digit ∷ []) b first (digit_begins digit small) (digit_is_none digit small)
    (λ c more after there one. let is = digit_bytes digit (encode_utf8 c ++ after) small in elim (numbered_cases one.0 _ one.1) [
      | inl p ↦ char_fails c 125 (first_is c 125 after [] (tail_is _ _ _ _ (sym is ∙ p.3)) (omega arith)) (none c more there)
      | inr p ↦ differs (low_one digit small (head_is _ _ _ _ (sym is ∙ p.3)))
    ]))

-- a 1, and neither a digit nor a brace
pub no_second : (a b d e : TextCursor) (digit : ℕ) → digit < 16 → Passes a (low digit ∷ []) b → d ≡ b → e ≡ d → NoneNext (λ c. c == 125) b.rest.now → NoneNext is_lower_digit d.rest.now → GoesWrong IsNumberedText a e.place
no_second a b d e digit small first stays again none no_digit =
    let no_more = subst (λ (x : TextCursor). NoneNext is_lower_digit x.rest.now) stays no_digit in
    rw (again ∙ stays) (wrong_where_it_stops IsNumberedText a (low digit ∷ []) b first (digit_begins digit small) (digit_is_none digit small)
    (λ c more after there one. let is = digit_bytes digit (encode_utf8 c ++ after) small in elim (numbered_cases one.0 _ one.1) [
      | inl p ↦ char_fails c 125 (first_is c 125 after [] (tail_is _ _ _ _ (sym is ∙ p.3)) (omega arith)) (none c more there)
      | inr p ↦ lower_fails p.0 c p.1 (first_is c (low p.0) after (125 ∷ []) (tail_is _ _ _ _ (sym is ∙ p.3)) (low_ascii p.0 p.1)) (no_more c more there)
    ]))

-- two digits, and no brace
pub no_end : (a b d e : TextCursor) (high digit : ℕ) → high ≡ 1 → digit < 16 → Passes a (low high ∷ []) b → Passes b (low digit ∷ []) d → e ≡ d → NoneNext (λ c. c == 125) d.rest.now → GoesWrong IsNumberedText a e.place
no_end a b d e high digit one small first second stays none =
    let passed : Passes a (49 ∷ []) b = subst (λ (n : ℕ). Passes a (low n ∷ []) b) one first in
    let front = 49 ∷ low digit ∷ [] in
    let written : encode_utf8_all front ≡ front = encodes_ascii front (omega arith, (low_ascii digit small, tt)) in
    let begun : encode_utf8_all front ++ 125 ∷ [] ≡ 49 ∷ low digit ∷ 125 ∷ [] = ap (λ (bs : List ℕ). bs ++ 125 ∷ []) written in
    rw stays (wrong_where_it_stops IsNumberedText a front d (passes_on a b d (49 ∷ []) (low digit ∷ []) passed second)
    (125 ∷ [], (16 + digit, rw begun (numbered_high digit small)))
    (λ whole. elim (numbered_cases whole.0 _ whole.1) [
      | inl p ↦ is_no_brace digit small (head_is _ _ _ _ (tail_is _ _ _ _ (sym written ∙ p.3)))
      | inr p ↦ omega (arith, ap length (sym written ∙ p.3))
    ])
    (λ c more after there whole. let is : encode_utf8_all front ++ (encode_utf8 c ++ after) ≡ 49 ∷ low digit ∷ (encode_utf8 c ++ after) = ap (λ (bs : List ℕ). bs ++ (encode_utf8 c ++ after)) written in
    elim (numbered_cases whole.0 _ whole.1) [
      | inl p ↦ is_no_brace digit small (head_is _ _ _ _ (tail_is _ _ _ _ (sym is ∙ p.3)))
      | inr p ↦ char_fails c 125 (first_is c 125 after [] (tail_is _ _ _ _ (tail_is _ _ _ _ (sym is ∙ p.3))) (omega arith)) (none c more there)
    ]))
