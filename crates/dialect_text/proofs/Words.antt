-- Names and the texts of an enumeration are words: what stands behind one is told from it.
use Rattle.std.proofs.Common.{◌≡◌, ℕ, ◌≤◌, true, false, List, [], ◌∷◌, ◌++◌, length, refl, sym, ap, ap₂, ◌∙◌, arith}
use Rattle.std.specs.List.{list_all}
use Rattle.std.specs.Str.{encode_utf8_all}
use Rattle.std.proofs.lemmas.Str.{encodes-IsAscii}
use Rattle.exi_schema.specs.Schemas.{PlainSchema, is_word_char}
use Rattle.exi_schema.proofs.Conditions.{and-l, and-r}
use Rattle.value_text.specs.ValueText.{IsName}
use Rattle.value_text.proofs.SchemaWords.{IsWordText, word_at, words_of, one_place}

-- ---- characters of words

pub word_chars : (text : List ℕ) → IsWordText text → encode_utf8_all text ≡ text
word_chars text is = encodes-IsAscii text (λ i. word_at text i is)

not_word : (c d : ℕ) → c ≡ d → is_word_char c ≡ true → is_word_char d ≡ false → ⊥
not_word c d e is isnt = let both : true ≡ false = sym is ∙ ap is_word_char e ∙ isnt in cc

-- behind words stand characters of no word
pub words_split : (a b : List ℕ) (c d : ℕ) (x y : List ℕ) → IsWordText a → IsWordText b → is_word_char c ≡ false → is_word_char d ≡ false →
    a ++ c ∷ x ≡ b ++ d ∷ y → (a ≡ b) × (c ≡ d) × (x ≡ y)
words_split [] [] c d x y p q m n e = let same : c ∷ x ≡ d ∷ y = e in (refl, cc, cc)
words_split [] (h ∷ b) c d x y p q m n e =
    let same : c ∷ x ≡ h ∷ (b ++ d ∷ y) = e in let first : h ≡ c = cc in absurd (not_word h c first (and-l (is_word_char h) (list_all is_word_char b) q) m)
words_split (g ∷ a) [] c d x y p q m n e =
    let same : g ∷ (a ++ c ∷ x) ≡ d ∷ y = e in let first : g ≡ d = cc in absurd (not_word g d first (and-l (is_word_char g) (list_all is_word_char a) p) n)
words_split (g ∷ a) (h ∷ b) c d x y p q m n e =
    let same : g ∷ (a ++ c ∷ x) ≡ h ∷ (b ++ d ∷ y) = e in
    let first : g ≡ h = cc in
    let later : a ++ c ∷ x ≡ b ++ d ∷ y = cc in
    let more = words_split a b c d x y (and-r (is_word_char g) (list_all is_word_char a) p) (and-r (is_word_char h) (list_all is_word_char b) q) m n later in
    (ap₂ (λ (n : ℕ) (ns : List ℕ). n ∷ ns) first more.0, more.1, more.2)

-- a text that isn't empty and begins with a word begins with none of the other characters
pub word_first : (a : List ℕ) (x : List ℕ) (d : ℕ) (y : List ℕ) → 1 ≤ length a → IsWordText a → is_word_char d ≡ false → a ++ x ≡ d ∷ y → ⊥
word_first [] x d y some is n e = omega (arith, some)
word_first (g ∷ a) x d y some is n e =
    let same : g ∷ (a ++ x) ≡ d ∷ y = e in let first : g ≡ d = cc in not_word g d first (and-l (is_word_char g) (list_all is_word_char a) is) n

-- ---- names

pub one_name : (s : PlainSchema) (name other : ℕ) (word : List ℕ) → IsName s name word → IsName s other word → name ≡ other
one_name s name other word p q = one_place s.names name other word (words_of s) p q
