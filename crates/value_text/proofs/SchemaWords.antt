-- Names and the texts of an enumeration are words in ASCII, and how many texts an enumeration has.
use Rattle.std.proofs.Common.{◌≡◌, ℕ, zero, suc, ◌<◌, ◌≤◌, ◌⊎◌, inl, inr, Bool, true, false, not, ◌&&◌, nat_le, List, [], ◌∷◌, length, map, Some, None, slice_get, refl, sym, ap, subst, ◌∙◌, arith, get_or}
use Rattle.std.specs.Prelude.{◌==◌, ◌||◌}
use Rattle.std.specs.List.{list_any, list_all}
use Rattle.std.proofs.lemmas.Bool.{leb-true, eqb-true}
use Rattle.std.proofs.lemmas.Bool.Decides.{eqb_tells}
use Rattle.exi_schema.specs.Schemas.{PlainSchema, are_kinds, are_roots, are_words, are_values, is_word, is_word_char, same_text, value_count, is_declaration}
use Rattle.exi_schema.specs.declared.tables.Datatype.TheVariants.{Named}
use Rattle.exi_schema.specs.Plain.{PlainKind, valued}
use Rattle.exi_schema.specs.Steps.{texts_at}
use Rattle.exi_schema.proofs.Conditions.{and-l, and-r, all_get}
use Rattle.value_text.specs.Forms.{AreAscii}
use Rattle.value_text.specs.ValueText.{IsName, value_names}

pub either_is : (a b : Bool) → (a || b) ≡ true → (a ≡ true) ⊎ (b ≡ true)
either_is true b is = inl refl
either_is false b is = inr is

pub word_char_low : (c : ℕ) → is_word_char c ≡ true → c < 128
word_char_low c is =
    elim (either_is ((nat_le 48 c && nat_le c 57) || (nat_le 65 c && nat_le c 90) || (nat_le 97 c && nat_le c 122)) (c == 95) is) [
      | inl three ↦ elim (either_is ((nat_le 48 c && nat_le c 57) || (nat_le 65 c && nat_le c 90)) (nat_le 97 c && nat_le c 122) three) [
        | inl two ↦ elim (either_is (nat_le 48 c && nat_le c 57) (nat_le 65 c && nat_le c 90) two) [
          | inl one ↦ let top = leb-true c 57 (and-r (nat_le 48 c) (nat_le c 57) one) in omega (arith, top)
          | inr one ↦ let top = leb-true c 90 (and-r (nat_le 65 c) (nat_le c 90) one) in omega (arith, top)
        ]
        | inr one ↦ let top = leb-true c 122 (and-r (nat_le 97 c) (nat_le c 122) one) in omega (arith, top)
      ]
      | inr one ↦ elim (eqb_tells c 95) [ inl tells ↦ omega (arith, tells.1) | inr tells ↦ let wrong : false ≡ true = sym tells.0 ∙ one in absurd cc ]
    ]

abbrev pub IsWordText : List ℕ → Type 0
IsWordText text = list_all is_word_char text ≡ true

pub word_at : (text : List ℕ) (i : ℕ) → IsWordText text → get_or text i 0 < 128
word_at [] i is = omega arith
word_at (c ∷ text) zero is = word_char_low c (and-l (is_word_char c) (list_all is_word_char text) is)
word_at (c ∷ text) (suc i) is = word_at text i (and-r (is_word_char c) (list_all is_word_char text) is)

-- ---- the words of a schema

pub words_of : (s : PlainSchema) → are_words s.names ≡ true
words_of s =
    let texts : List (List ℕ) = s.names in
    and-r (are_kinds (length texts) s.kinds && are_roots s.root_bits (length texts) s.kinds s.roots) (are_words texts)
    (and-l _ (are_values s.kinds s.values) s.fits)

pub values_of : (s : PlainSchema) → are_values s.kinds s.values ≡ true
values_of s =
    let texts : List (List ℕ) = s.names in
    and-r (are_kinds (length texts) s.kinds && are_roots s.root_bits (length texts) s.kinds s.roots && are_words texts) (are_values s.kinds s.values) s.fits

pub words_at : (kinds : List PlainKind) (values : List (List (List ℕ))) (kind : ℕ) → are_values kinds values ≡ true → are_words (texts_at values kind) ≡ true
words_at [] [] kind is = refl
words_at [] (texts ∷ values) kind is = let wrong : false ≡ true = is in absurd cc
words_at (k ∷ kinds) [] kind is = let wrong : false ≡ true = is in absurd cc
words_at (k ∷ kinds) (texts ∷ values) zero is =
    and-r (length texts == value_count k) (are_words texts) (and-l (length texts == value_count k && are_words texts) (are_values kinds values) is)
words_at (k ∷ kinds) (texts ∷ values) (suc kind) is = words_at kinds values kind (and-r (length texts == value_count k && are_words texts) (are_values kinds values) is)

pub value_words : (s : PlainSchema) (kind : ℕ) → are_words (value_names s kind) ≡ true
value_words s kind = words_at s.kinds s.values kind (values_of s)

pub word_in : (texts : List (List ℕ)) (i : ℕ) (word : List ℕ) → are_words texts ≡ true → slice_get texts i ≡ Some word → is_word word ≡ true
word_in [] i word are at = let wrong : None ≡ Some word = at in absurd cc
word_in (text ∷ texts) zero word are at =
    let is : Some text ≡ Some word = at in let same : text ≡ word = cc in
    subst (λ (t : List ℕ). is_word t ≡ true) same (and-l (is_word text) (not (list_any (same_text text) texts)) (and-l (is_word text && not (list_any (same_text text) texts)) (are_words texts) are))
word_in (text ∷ texts) (suc i) word are at = word_in texts i word (and-r (is_word text && not (list_any (same_text text) texts)) (are_words texts) are) at

pub word_text : (word : List ℕ) → is_word word ≡ true → (1 ≤ length word) × IsWordText word
word_text word is = (leb-true 1 (length word) (and-l (nat_le 1 (length word)) (list_all is_word_char word) is), and-r (nat_le 1 (length word)) (list_all is_word_char word) is)

pub name_word : (s : PlainSchema) (name : ℕ) (word : List ℕ) → IsName s name word → (1 ≤ length word) × IsWordText word
name_word s name word at = word_text word (word_in s.names name word (words_of s) at)

-- ---- in ASCII

words_ascii : (texts : List (List ℕ)) → are_words texts ≡ true → AreAscii texts
words_ascii texts are i word at = λ k. word_at word k (word_text word (word_in texts i word are at)).1

pub values_ascii : (s : PlainSchema) (kind : ℕ) → AreAscii (value_names s kind)
values_ascii s kind = words_ascii (value_names s kind) (value_words s kind)

pub names_ascii : (s : PlainSchema) → AreAscii s.names
names_ascii s = words_ascii s.names (words_of s)

-- ---- the texts of an enumeration

values_there : (kinds : List PlainKind) (values : List (List (List ℕ))) (kind : ℕ) (declaration : PlainKind) → are_values kinds values ≡ true → slice_get kinds kind ≡ Some declaration →
    (texts : List (List ℕ)) × (slice_get values kind ≡ Some texts) × (length texts ≡ value_count declaration)
values_there [] values kind declaration is at = let wrong : None ≡ Some declaration = at in absurd cc
values_there (k ∷ kinds) [] kind declaration is at = let wrong : false ≡ true = is in absurd cc
values_there (k ∷ kinds) (texts ∷ values) zero declaration is at =
    let found : Some k ≡ Some declaration = at in
    let same : k ≡ declaration = cc in
    (texts, refl, eqb-true _ _ (and-l (length texts == value_count k) (are_words texts) (and-l (length texts == value_count k && are_words texts) (are_values kinds values) is)) ∙ ap value_count same)
values_there (k ∷ kinds) (texts ∷ values) (suc kind) declaration is at = values_there kinds values kind declaration (and-r (length texts == value_count k && are_words texts) (are_values kinds values) is) at

pub names_of_kind : (s : PlainSchema) (kind count : ℕ) → slice_get s.kinds kind ≡ Some (valued (Named count)) →
    (texts : List (List ℕ)) × (slice_get s.values kind ≡ Some texts) × (length texts ≡ count)
names_of_kind s kind count at = values_there s.kinds s.values kind (valued (Named count)) (values_of s) at

pub some_names : (s : PlainSchema) (kind count : ℕ) → slice_get s.kinds kind ≡ Some (valued (Named count)) → 1 ≤ count
some_names s kind count at =
    let texts : List (List ℕ) = s.names in
    let values : List (List (List ℕ)) = s.values in
    let kinds_fit = and-l (are_kinds (length texts) s.kinds) (are_roots s.root_bits (length texts) s.kinds s.roots)
    (and-l (are_kinds (length texts) s.kinds && are_roots s.root_bits (length texts) s.kinds s.roots) (are_words texts)
    (and-l _ (are_values s.kinds values) s.fits)) in
    leb-true 1 count (all_get (is_declaration (length texts) s.kinds) s.kinds kind (valued (Named count)) (and-l (list_all (is_declaration (length texts) s.kinds) s.kinds) _ kinds_fit) at)

-- ---- no word stands twice

same_itself : (text : List ℕ) → same_text text text ≡ true
same_itself [] = refl
same_itself (c ∷ text) = elim (eqb_tells c c) [
  | inl tells ↦ ap (λ (b : Bool). b && same_text text text) tells.0 ∙ same_itself text
  | inr tells ↦ absurd (tells.1 refl)
]

any_at : (texts : List (List ℕ)) (i : ℕ) (word : List ℕ) → slice_get texts i ≡ Some word → list_any (same_text word) texts ≡ true
any_at [] i word at = let wrong : None ≡ Some word = at in absurd cc
any_at (text ∷ texts) zero word at =
    let is : Some text ≡ Some word = at in let same : word ≡ text = cc in
    ap (λ (b : Bool). b || list_any (same_text word) texts) (ap (same_text word) (sym same) ∙ same_itself word)
any_at (text ∷ texts) (suc i) word at = or_true (same_text word text) (any_at texts i word at)
  where
    or_true : (b : Bool) → list_any (same_text word) texts ≡ true → (b || list_any (same_text word) texts) ≡ true
    or_true true is = refl
    or_true false is = is

not_again : (text word : List ℕ) (texts : List (List ℕ)) (i : ℕ) → are_words (text ∷ texts) ≡ true → text ≡ word → slice_get texts i ≡ Some word → ⊥
not_again text word texts i are same at =
    let none : not (list_any (same_text text) texts) ≡ true = and-r (is_word text) (not (list_any (same_text text) texts)) (and-l (is_word text && not (list_any (same_text text) texts)) (are_words texts) are) in
    let some : list_any (same_text text) texts ≡ true = subst (λ (t : List ℕ). list_any (same_text t) texts ≡ true) (sym same) (any_at texts i word at) in
    let wrong : false ≡ true = ap not (sym some) ∙ none in cc

pub one_place : (texts : List (List ℕ)) (i j : ℕ) (word : List ℕ) → are_words texts ≡ true → slice_get texts i ≡ Some word → slice_get texts j ≡ Some word → i ≡ j
one_place [] i j word are p q = let wrong : None ≡ Some word = p in absurd cc
one_place (text ∷ texts) zero zero word are p q = refl
one_place (text ∷ texts) zero (suc j) word are p q =
    let is : Some text ≡ Some word = p in let same : text ≡ word = cc in absurd (not_again text word texts j are same q)
one_place (text ∷ texts) (suc i) zero word are p q =
    let is : Some text ≡ Some word = q in let same : text ≡ word = cc in absurd (not_again text word texts i are same p)
one_place (text ∷ texts) (suc i) (suc j) word are p q =
    ap suc (one_place texts i j word (and-r (is_word text && not (list_any (same_text text) texts)) (are_words texts) are) p q)
