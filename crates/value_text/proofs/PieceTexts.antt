-- Characters between quotes where a cursor stands.
use Rattle.std.proofs.Common.{◌≡◌, ℕ, ◌<◌, ◌≤◌, true, false, List, [], ◌∷◌, ◌++◌, length, get_or, drop, ◌⊎◌, inl, inr, Result, IfOk, IfErr, refl, sym, ap, subst, ◌∙◌, arith}
use Rattle.std.specs.Prelude.{◌==◌, nat_le, nat_lt, encode_utf8, Some, None, Option}
use Rattle.std.specs.Char.{IsScalar}
use Rattle.std.specs.List.{AllByRecursion}
use Rattle.std.specs.Str.{encode_utf8_all}
use Rattle.std.proofs.lemmas.Bool.{cases_lt, cases_eq}
use Rattle.std.proofs.lemmas.Bool.Decides.{nat_tests}
use Rattle.std.proofs.lemmas.List.{append-nil}
use Rattle.std.proofs.lemmas.Str.{encode_ascii, encode_same}
use Rattle.std.proofs.Math.Utf8.{low_scalar}
use Rattle.value_text.specs.declared.cursor.TextCursor.{TextCursor}
use Rattle.value_text.specs.Forms.{IsNumbered, IsNumberedText, IsBraced, IsBracedText, IsEscaped, IsEscapedText, IsPiece, IsPieceText, NoneNext}
use Rattle.value_text.specs.Scanning.{Passes, Takes, GoesWrong}
use Rattle.value_text.specs.ValueText.{character_text}
use Rattle.value_text.proofs.EscapeTexts.{GivesNumbered, first_is, numbered_low, numbered_ascii, one_numbered, encodes_ascii}
use Rattle.value_text.proofs.FrontLaws.{StandsBehind, IsPrefixFree, passes_none, takes_whole, takes_behind, wrong_behind, wrong_where_it_stops}
use Rattle.value_text.proofs.NextLaws.{some_bytes, none_at, none_at_end}
use Rattle.value_text.proofs.Outcomes.{ok_to, err_to}

tail_is : (a b : ℕ) (xs ys : List ℕ) → a ∷ xs ≡ b ∷ ys → xs ≡ ys
tail_is a b xs ys e = ap (λ (bs : List ℕ). drop 1 bs) e

head_is : (a b : ℕ) (xs ys : List ℕ) → a ∷ xs ≡ b ∷ ys → a ≡ b
head_is a b xs ys e = ap (λ (bs : List ℕ). get_or bs 0 0) e

pub byte_front : (b : ℕ) (rest : List ℕ) → b < 128 → encode_utf8_all (b ∷ []) ++ rest ≡ b ∷ rest
byte_front b rest small = ap (λ (bs : List ℕ). bs ++ rest) (encodes_ascii (b ∷ []) (small, tt))

pub byte_cons : (b : ℕ) (front : List ℕ) → b < 128 → encode_utf8_all (b ∷ front) ≡ b ∷ encode_utf8_all front
byte_cons b front small = ap (λ (bs : List ℕ). bs ++ encode_utf8_all front) (encode_ascii b small)

pub char_fails : (c d : ℕ) → c ≡ d → (c == d) ≡ false → ⊥
char_fails c d e fails = grind (arith, nat_tests)

-- ---- a language whose texts begin with one byte

pub no_first : (L : List ℕ → Type 0) (a b : TextCursor) (first : ℕ) (whole : List ℕ) → first < 128 → L whole → ((text : List ℕ) → L text → (rest : List ℕ) × (text ≡ first ∷ rest))
    → b ≡ a → NoneNext (λ c. c == first) a.rest.now → GoesWrong L a b.place
no_first L a b first whole small one begins stays none =
    rw stays (wrong_where_it_stops L a [] a (passes_none a) (whole, one)
    (λ empty. let is = begins [] empty in absurd (omega (arith, ap length is.1)))
    (λ c more after there text. let is = begins (encode_utf8 c ++ after) text in char_fails c first (first_is c first after is.0 is.1 small) (none c more there)))

-- ---- in braces

abbrev pub GivesBraced : TextCursor → ℕ → TextCursor → Type 0
GivesBraced a c b = (front : List ℕ) × Takes IsBracedText a front b × IsBraced c (encode_utf8_all front)

numbered_in_braces : StandsBehind IsNumberedText IsBracedText (123 ∷ [])
numbered_in_braces = record {
  to = λ x one. (one.0, (x, one.1, byte_front 123 x (omega arith)));
  from = λ x one. (one.0, subst (IsNumbered one.0) (sym (tail_is 123 123 x one.1.0 (sym (byte_front 123 x (omega arith)) ∙ one.1.2))) one.1.1);
}

gives_braced : (a b d : TextCursor) (c : ℕ) → Passes a (123 ∷ []) b → GivesNumbered b c d → GivesBraced a c d
gives_braced a b d c passed g = (
  123 ∷ g.0,
  takes_behind IsNumberedText IsBracedText a b d (123 ∷ []) g.0 numbered_in_braces passed g.1,
  (encode_utf8_all g.0, g.2, byte_cons 123 g.0 (omega arith)),
)

pub braced_ok : (a b : TextCursor) (r : Result (ℕ × TextCursor) ℕ) → Passes a (123 ∷ []) b → IfOk r (λ x. GivesNumbered b x.0 x.1) → IfOk r (λ x. GivesBraced a x.0 x.1)
braced_ok a b r passed h = ok_to r (λ x. GivesNumbered b x.0 x.1) (λ x. GivesBraced a x.0 x.1) (λ x g. gives_braced a b x.1 x.0 passed g) h

pub braced_wrong : (a b : TextCursor) (r : Result (ℕ × TextCursor) ℕ) → Passes a (123 ∷ []) b → IfErr r (GoesWrong IsNumberedText b) → IfErr r (GoesWrong IsBracedText a)
braced_wrong a b r passed h = err_to r (GoesWrong IsNumberedText b) (GoesWrong IsBracedText a) (λ place w. wrong_behind IsNumberedText IsBracedText a b (123 ∷ []) place numbered_in_braces passed w) h

braced_null : IsBracedText (123 ∷ 48 ∷ 125 ∷ [])
braced_null = (0, (48 ∷ 125 ∷ [], numbered_low 0 (omega arith), refl))

pub no_brace_first : (a b : TextCursor) → b ≡ a → NoneNext (λ c. c == 123) a.rest.now → GoesWrong IsBracedText a b.place
no_brace_first a b stays none = no_first IsBracedText a b 123 (123 ∷ 48 ∷ 125 ∷ []) (omega arith) braced_null (λ text one. (one.1.0, one.1.2)) stays none

-- ---- behind a backslash

abbrev pub GivesEscaped : TextCursor → ℕ → TextCursor → Type 0
GivesEscaped a c b = (front : List ℕ) × Takes IsEscapedText a front b × IsEscaped c (encode_utf8_all front)

abbrev Cases : ℕ → List ℕ → Type 0
Cases c text = ((c ≡ 34) × (text ≡ 34 ∷ [])) ⊎ (((c ≡ 92) × (text ≡ 92 ∷ [])) ⊎ ((number : List ℕ) × IsNumbered c number × (text ≡ 117 ∷ 123 ∷ number)))

escaped_cases : (c : ℕ) (text : List ℕ) → IsEscaped c text → Cases c text
escaped_cases c text (inl p) = inl p
escaped_cases c text (inr (inl p)) = inr (inl p)
escaped_cases c text (inr (inr p)) = inr (inr (p.1.0, p.1.1, p.2 ∙ ap (λ (bs : List ℕ). 117 ∷ bs) p.1.2))

joined : (a b x y s t : List ℕ) → a ++ x ≡ b ++ y → a ≡ s → b ≡ t → s ++ x ≡ t ++ y
joined a b x y s t e p q = ap (λ (bs : List ℕ). bs ++ x) (sym p) ∙ e ∙ ap (λ (bs : List ℕ). bs ++ y) q

one_of_cases : (c d : ℕ) (a b x y : List ℕ) → Cases c a → Cases d b → a ++ x ≡ b ++ y → (c ≡ d) × (x ≡ y)
one_of_cases c d a b x y (inl p) (inl q) e = (p.0 ∙ sym q.0, tail_is 34 34 x y (joined a b x y _ _ e p.1 q.1))
one_of_cases c d a b x y (inl p) (inr (inl q)) e = absurd (omega (arith, head_is 34 92 x y (joined a b x y _ _ e p.1 q.1)))
one_of_cases c d a b x y (inl p) (inr (inr q)) e = absurd (omega (arith, head_is 34 117 x (123 ∷ (q.0 ++ y)) (joined a b x y _ _ e p.1 q.2)))
one_of_cases c d a b x y (inr (inl p)) (inl q) e = absurd (omega (arith, head_is 92 34 x y (joined a b x y _ _ e p.1 q.1)))
one_of_cases c d a b x y (inr (inl p)) (inr (inl q)) e = (p.0 ∙ sym q.0, tail_is 92 92 x y (joined a b x y _ _ e p.1 q.1))
one_of_cases c d a b x y (inr (inl p)) (inr (inr q)) e = absurd (omega (arith, head_is 92 117 x (123 ∷ (q.0 ++ y)) (joined a b x y _ _ e p.1 q.2)))
one_of_cases c d a b x y (inr (inr p)) (inl q) e = absurd (omega (arith, head_is 117 34 (123 ∷ (p.0 ++ x)) y (joined a b x y _ _ e p.2 q.1)))
one_of_cases c d a b x y (inr (inr p)) (inr (inl q)) e = absurd (omega (arith, head_is 117 92 (123 ∷ (p.0 ++ x)) y (joined a b x y _ _ e p.2 q.1)))
one_of_cases c d a b x y (inr (inr p)) (inr (inr q)) e =
    one_numbered c d p.0 q.0 x y p.1 q.1 (ap (λ (bs : List ℕ). drop 2 bs) (joined a b x y (117 ∷ 123 ∷ p.0) (117 ∷ 123 ∷ q.0) e p.2 q.2))

one_escaped : (c d : ℕ) (a b x y : List ℕ) → IsEscaped c a → IsEscaped d b → a ++ x ≡ b ++ y → (c ≡ d) × (x ≡ y)
one_escaped c d a b x y p q e = one_of_cases c d a b x y (escaped_cases c a p) (escaped_cases d b q) e

escaped_free : IsPrefixFree IsEscapedText
escaped_free x y p q = (one_escaped p.0 q.0 x (x ++ y) y [] p.1 q.1 (sym (append-nil (x ++ y)))).1

pub takes_escaped : (a b : TextCursor) (c : ℕ) → (c ≡ 34) ⊎ (c ≡ 92) → Passes a (c ∷ []) b → GivesEscaped a c b
takes_escaped a b c (inl is) passed =
    let one : IsEscaped c (encode_utf8_all (c ∷ [])) = inl (is, sym (append-nil _) ∙ byte_front c [] (omega (arith, is)) ∙ ap (λ (n : ℕ). n ∷ []) is) in
    (c ∷ [], takes_whole IsEscapedText a (c ∷ []) b escaped_free passed (c, one), one)
takes_escaped a b c (inr is) passed =
    let one : IsEscaped c (encode_utf8_all (c ∷ [])) = inr (inl (is, sym (append-nil _) ∙ byte_front c [] (omega (arith, is)) ∙ ap (λ (n : ℕ). n ∷ []) is)) in
    (c ∷ [], takes_whole IsEscapedText a (c ∷ []) b escaped_free passed (c, one), one)

braced_in_escape : StandsBehind IsBracedText IsEscapedText (117 ∷ [])
braced_in_escape = record {
  to = λ x one. (one.0, inr (inr (x, one.1, byte_front 117 x (omega arith))));
  from = λ x one. elim one.1 [
    | inl p ↦ absurd (omega (arith, head_is 117 34 x [] (sym (byte_front 117 x (omega arith)) ∙ p.1)))
    | inr other ↦ elim other [
      | inl p ↦ absurd (omega (arith, head_is 117 92 x [] (sym (byte_front 117 x (omega arith)) ∙ p.1)))
      | inr p ↦ (one.0, subst (IsBraced one.0) (sym (tail_is 117 117 x p.0 (sym (byte_front 117 x (omega arith)) ∙ p.2))) p.1)
    ]
  ];
}

gives_escaped : (a b d : TextCursor) (c : ℕ) → Passes a (117 ∷ []) b → GivesBraced b c d → GivesEscaped a c d
gives_escaped a b d c passed g = (
  117 ∷ g.0,
  takes_behind IsBracedText IsEscapedText a b d (117 ∷ []) g.0 braced_in_escape passed g.1,
  inr (inr (encode_utf8_all g.0, g.2, byte_cons 117 g.0 (omega arith))),
)

pub escaped_ok : (a b : TextCursor) (r : Result (ℕ × TextCursor) ℕ) → Passes a (117 ∷ []) b → IfOk r (λ x. GivesBraced b x.0 x.1) → IfOk r (λ x. GivesEscaped a x.0 x.1)
escaped_ok a b r passed h = ok_to r (λ x. GivesBraced b x.0 x.1) (λ x. GivesEscaped a x.0 x.1) (λ x g. gives_escaped a b x.1 x.0 passed g) h

pub escaped_wrong : (a b : TextCursor) (r : Result (ℕ × TextCursor) ℕ) → Passes a (117 ∷ []) b → IfErr r (GoesWrong IsBracedText b) → IfErr r (GoesWrong IsEscapedText a)
escaped_wrong a b r passed h = err_to r (GoesWrong IsBracedText b) (GoesWrong IsEscapedText a) (λ place w. wrong_behind IsBracedText IsEscapedText a b (117 ∷ []) place braced_in_escape passed w) h

pub no_escape : (a b : TextCursor) → b ≡ a → NoneNext (λ c. c == 34) a.rest.now → NoneNext (λ c. c == 92) a.rest.now → NoneNext (λ c. c == 117) a.rest.now → GoesWrong IsEscapedText a b.place
no_escape a b stays no_quote no_backslash no_u =
    rw stays (wrong_where_it_stops IsEscapedText a [] a (passes_none a) (34 ∷ [], (34, inl (refl, refl)))
    (λ one. elim (escaped_cases one.0 [] one.1) [ inl p ↦ omega (arith, ap length p.1) | inr other ↦ elim other [ inl p ↦ omega (arith, ap length p.1) | inr p ↦ omega (arith, ap length p.2) ] ])
    (λ c more after there one. elim (escaped_cases one.0 (encode_utf8 c ++ after) one.1) [
      | inl p ↦ char_fails c 34 (first_is c 34 after [] p.1 (omega arith)) (no_quote c more there)
      | inr other ↦ elim other [
        | inl p ↦ char_fails c 92 (first_is c 92 after [] p.1 (omega arith)) (no_backslash c more there)
        | inr p ↦ char_fails c 117 (first_is c 117 after (123 ∷ p.0) p.2 (omega arith)) (no_u c more there)
      ]
    ]))

-- ---- pieces

test_no : (c d : ℕ) → (c ≡ d → ⊥) → (c == d) ≡ false
test_no c d differs = grind (arith, nat_tests)

below_yes : (c : ℕ) → c < 32 → nat_lt c 32 ≡ true
below_yes c small = grind (arith, nat_tests)

below_no : (c : ℕ) → 32 ≤ c → nat_lt c 32 ≡ false
below_no c large = grind (arith, nat_tests)

control_text : (c : ℕ) (number : List ℕ) → IsNumbered c number → character_text c ≡ 92 ∷ 117 ∷ 123 ∷ number
control_text c number is =
    let no_quote = test_no c 34 (λ e. omega (arith, e, is.0)) in
    let no_backslash = test_no c 92 (λ e. omega (arith, e, is.0)) in
    rw (no_quote, no_backslash, below_yes c is.0, is.1) refl

pub plain_text : (c : ℕ) → 32 ≤ c → (c ≡ 34 → ⊥) → (c ≡ 92 → ⊥) → character_text c ≡ encode_utf8 c
plain_text c large no_quote no_backslash = rw (test_no c 34 no_quote, test_no c 92 no_backslash, below_no c large) refl

escape_text : (c : ℕ) (x : List ℕ) → IsEscaped c x → character_text c ≡ 92 ∷ x
escape_text c x (inl p) = ap character_text p.0 ∙ ap (λ (bs : List ℕ). 92 ∷ bs) (sym p.1)
escape_text c x (inr (inl p)) = ap character_text p.0 ∙ ap (λ (bs : List ℕ). 92 ∷ bs) (sym p.1)
escape_text c x (inr (inr p)) = control_text c p.1.0 p.1.1 ∙ ap (λ (bs : List ℕ). 92 ∷ 117 ∷ bs) (sym p.1.2) ∙ ap (λ (bs : List ℕ). 92 ∷ bs) (sym p.2)

-- a character stands behind a backslash, or as it is
abbrev Shape : ℕ → Type 0
Shape c = ((x : List ℕ) × IsEscaped c x × (character_text c ≡ 92 ∷ x)) ⊎ ((32 ≤ c) × (c ≡ 34 → ⊥) × (c ≡ 92 → ⊥) × (character_text c ≡ encode_utf8 c))

shape_escaped : (c : ℕ) (x : List ℕ) → IsEscaped c x → Shape c
shape_escaped c x is = inl (x, is, escape_text c x is)

shape : (c : ℕ) → Shape c
shape c =
    elim (cases_eq c 34) [
      | inl is ↦ shape_escaped c (34 ∷ []) (inl (is, refl))
      | inr no_quote ↦ elim (cases_eq c 92) [
        | inl is ↦ shape_escaped c (92 ∷ []) (inr (inl (is, refl)))
        | inr no_backslash ↦ elim (cases_lt c 32) [
          | inl small ↦ shape_escaped c _ (inr (inr (_, (_, (small, refl), refl), refl)))
          | inr large ↦ inr (large, no_quote, no_backslash, plain_text c large no_quote no_backslash)
        ]
      ]
    ]

backslash_or : (c b : ℕ) (x y : List ℕ) → (32 ≤ c) × (c ≡ 34 → ⊥) × (c ≡ 92 → ⊥) × (character_text c ≡ encode_utf8 c) → character_text c ++ x ≡ b ∷ y → b < 128 → c ≡ b
backslash_or c b x y plain e small = first_is c b x y (ap (λ (bs : List ℕ). bs ++ x) (sym plain.3) ∙ e) small

-- the character that stands first is one
pub one_piece : (c d : ℕ) (x y : List ℕ) → character_text c ++ x ≡ character_text d ++ y → (c ≡ d) × (x ≡ y)
one_piece c d x y e =
    elim (shape c) [
      | inl p ↦ elim (shape d) [
        | inl q ↦ one_escaped c d p.0 q.0 x y p.1 q.1 (ap (λ (bs : List ℕ). drop 1 bs) (joined _ _ x y (92 ∷ p.0) (92 ∷ q.0) e p.2 q.2))
        | inr q ↦ absurd (q.2 (backslash_or d 92 y (p.0 ++ x) q (sym e ∙ ap (λ (bs : List ℕ). bs ++ x) p.2) (omega arith)))
      ]
      | inr p ↦ elim (shape d) [
        | inl q ↦ absurd (p.2 (backslash_or c 92 x (q.0 ++ y) p (e ∙ ap (λ (bs : List ℕ). bs ++ y) q.2) (omega arith)))
        | inr q ↦ encode_same c d x y (joined _ _ x y (encode_utf8 c) (encode_utf8 d) e p.3 q.3)
      ]
    ]

-- it isn't the closing quote
pub no_quote_first : (c : ℕ) (x y : List ℕ) → character_text c ++ x ≡ 34 ∷ y → ⊥
no_quote_first c x y e =
    elim (shape c) [
      | inl p ↦ omega (arith, head_is 92 34 (p.0 ++ x) y (ap (λ (bs : List ℕ). bs ++ x) (sym p.2) ∙ e))
      | inr p ↦ p.1 (backslash_or c 34 x y p e (omega arith))
    ]

piece_free : IsPrefixFree IsPieceText
piece_free x y (inl p) (inl q) = tail_is 34 34 y [] (ap (λ (bs : List ℕ). bs ++ y) (sym p) ∙ q)
piece_free x y (inl p) (inr q) = absurd (no_quote_first q.0 [] y (append-nil _ ∙ sym q.2 ∙ ap (λ (bs : List ℕ). bs ++ y) p))
piece_free x y (inr p) (inl q) = absurd (no_quote_first p.0 y [] (ap (λ (bs : List ℕ). bs ++ y) (sym p.2) ∙ q))
piece_free x y (inr p) (inr q) = (one_piece p.0 q.0 y [] (ap (λ (bs : List ℕ). bs ++ y) (sym p.2) ∙ q.2 ∙ sym (append-nil _))).1

abbrev pub GivesPiece : TextCursor → Option ℕ → TextCursor → Type 0
GivesPiece a piece b = (front : List ℕ) × Takes IsPieceText a front b × IsPiece piece (encode_utf8_all front)

pub takes_quote : (a b : TextCursor) (c : ℕ) → c ≡ 34 → Passes a (c ∷ []) b → GivesPiece a None b
takes_quote a b c is passed =
    let quote : encode_utf8_all (c ∷ []) ≡ 34 ∷ [] = sym (append-nil _) ∙ byte_front c [] (omega (arith, is)) ∙ ap (λ (n : ℕ). n ∷ []) is in
    (c ∷ [], takes_whole IsPieceText a (c ∷ []) b piece_free passed (inl quote), quote)

pub takes_plain : (a b : TextCursor) (c : ℕ) → IsScalar c → 32 ≤ c → (c ≡ 34 → ⊥) → (c ≡ 92 → ⊥) → Passes a (c ∷ []) b → GivesPiece a (Some c) b
takes_plain a b c scalar large no_quote no_backslash passed =
    let is : encode_utf8_all (c ∷ []) ≡ character_text c = append-nil (encode_utf8 c) ∙ sym (plain_text c large no_quote no_backslash) in
    (c ∷ [], takes_whole IsPieceText a (c ∷ []) b piece_free passed (inr (c, scalar, is)), (scalar, is))

escaped_small : (c : ℕ) (x : List ℕ) → IsEscaped c x → c < 128
escaped_small c x (inl p) = omega (arith, p.0)
escaped_small c x (inr (inl p)) = omega (arith, p.0)
escaped_small c x (inr (inr p)) = omega (arith, p.1.1.0)

escaped_scalar : (c : ℕ) (x : List ℕ) → IsEscaped c x → IsScalar c
escaped_scalar c x is = low_scalar c (omega (arith, escaped_small c x is))

from_piece : (x : List ℕ) → IsPieceText (92 ∷ x) → IsEscapedText x
from_piece x (inl p) = absurd (omega (arith, head_is 92 34 x [] p))
from_piece x (inr p) =
    elim (shape p.0) [
      | inl q ↦ (p.0, subst (IsEscaped p.0) (sym (tail_is 92 92 x q.0 (p.2 ∙ q.2))) q.1)
      | inr q ↦ absurd (q.2 (backslash_or p.0 92 [] x q (append-nil _ ∙ sym p.2) (omega arith)))
    ]

escape_in_piece : StandsBehind IsEscapedText IsPieceText (92 ∷ [])
escape_in_piece = record {
  to = λ x one. inr (one.0, escaped_scalar one.0 x one.1, byte_front 92 x (omega arith) ∙ sym (escape_text one.0 x one.1));
  from = λ x one. from_piece x (subst IsPieceText (byte_front 92 x (omega arith)) one);
}

pub takes_escape : (a b d : TextCursor) (first c : ℕ) → first ≡ 92 → Passes a (first ∷ []) b → GivesEscaped b c d → GivesPiece a (Some c) d
takes_escape a b d first c is passed g = (
  92 ∷ g.0,
  takes_behind IsEscapedText IsPieceText a b d (92 ∷ []) g.0 escape_in_piece (subst (λ (n : ℕ). Passes a (n ∷ []) b) is passed) g.1,
  (escaped_scalar c _ g.2, byte_cons 92 g.0 (omega arith) ∙ sym (escape_text c _ g.2)),
)

pub wrong_escape : (a b : TextCursor) (first place : ℕ) → first ≡ 92 → Passes a (first ∷ []) b → GoesWrong IsEscapedText b place → GoesWrong IsPieceText a place
wrong_escape a b first place is passed w = wrong_behind IsEscapedText IsPieceText a b (92 ∷ []) place escape_in_piece (subst (λ (n : ℕ). Passes a (n ∷ []) b) is passed) w

-- no piece begins with a character below U+0020
piece_first : (c : ℕ) (after : List ℕ) → IsPieceText (encode_utf8 c ++ after) → 32 ≤ c
piece_first c after (inl p) = let is = first_is c 34 after [] p (omega arith) in omega (arith, is)
piece_first c after (inr p) =
    elim (shape p.0) [
      | inl q ↦ let is = first_is c 92 after q.0 (p.2 ∙ q.2) (omega arith) in omega (arith, is)
      | inr q ↦ let is = encode_same c p.0 after [] (p.2 ∙ q.3 ∙ sym (append-nil _)) in omega (arith, is.0, q.0)
    ]

pub some_text : (c : ℕ) → character_text c ≡ [] → ⊥
some_text c e =
    elim (shape c) [
      | inl p ↦ omega (arith, ap length (sym p.2 ∙ e))
      | inr p ↦ some_bytes c [] (append-nil _ ∙ sym p.3 ∙ e)
    ]

large_fails : (c : ℕ) → 32 ≤ c → nat_le 32 c ≡ false → ⊥
large_fails c large fails = grind (arith, nat_tests)

no_piece : (a : TextCursor) → NoneNext (λ c. nat_le 32 c) a.rest.now → GoesWrong IsPieceText a a.place
no_piece a none =
    wrong_where_it_stops IsPieceText a [] a (passes_none a) (34 ∷ [], inl refl)
    (λ one. elim one [ inl p ↦ omega (arith, ap length p) | inr p ↦ some_text p.0 (sym p.2) ])
    (λ c more after there one. large_fails c (piece_first c after one) (none c more there))

pub no_piece_at_end : (a : TextCursor) → a.rest.now ≡ [] → GoesWrong IsPieceText a a.place
no_piece_at_end a is = no_piece a (none_at_end (λ c. nat_le 32 c) a.rest.now is)

small_fails : (c : ℕ) → c < 32 → nat_le 32 c ≡ false
small_fails c small = grind (arith, nat_tests)

pub no_piece_at_control : (a b : TextCursor) (c : ℕ) → Passes a (c ∷ []) b → c < 32 → GoesWrong IsPieceText a a.place
no_piece_at_control a b c passed small = no_piece a (none_at (λ n. nat_le 32 n) a.rest.now b.rest.now c passed.stands (small_fails c small))

-- ---- each is spelled in whole characters

escape_ascii : (c : ℕ) (x : List ℕ) → IsEscaped c x → AllByRecursion (λ c. c < 128) x
escape_ascii c x (inl p) = subst (AllByRecursion (λ c. c < 128)) (sym p.1) (omega arith, tt)
escape_ascii c x (inr (inl p)) = subst (AllByRecursion (λ c. c < 128)) (sym p.1) (omega arith, tt)
escape_ascii c x (inr (inr p)) =
    subst (AllByRecursion (λ c. c < 128)) (sym (p.2 ∙ ap (λ (bs : List ℕ). 117 ∷ bs) p.1.2)) (omega arith, (omega arith, numbered_ascii c p.1.0 p.1.1))

pub spelled_chars : (c : ℕ) → (spelled : List ℕ) × (encode_utf8_all spelled ≡ character_text c)
spelled_chars c =
    elim (shape c) [
      | inl p ↦ (92 ∷ p.0, encodes_ascii (92 ∷ p.0) (omega arith, escape_ascii c p.0 p.1) ∙ sym p.2)
      | inr p ↦ (c ∷ [], append-nil (encode_utf8 c) ∙ sym p.3)
    ]
