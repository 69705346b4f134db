-- A line is cut into the words of which it was made, and a text into lines.
use Rattle.std.proofs.Common.{◌≡◌, ℕ, ◌+◌, ◌%◌, ◌^◌, ◌<◌, Bool, true, false, ◌==◌, List, [], ◌∷◌, ◌++◌, length, refl, sym, ap, ◌∙◌, append_assoc, arith}
use Rattle.std.specs.Prelude.{decimal, nat_le}
use Rattle.std.specs.List.{slice_split, list_all, All}
use Rattle.std.proofs.lemmas.Bool.{and_parts}
use Rattle.std.proofs.lemmas.List.{append_cancel_left}
use Rattle.std.proofs.lemmas.List.Elements.{All-weaker}
use Rattle.std.proofs.lemmas.List.Folds.{list_all-append}
use Rattle.std.proofs.lemmas.List.Splits.{slice_split_at, slice_split_none, join_with_byte-slice_split}
use Rattle.std.proofs.lemmas.List.Sums.{AllPass-from_list_all}
use Rattle.std.proofs.lemmas.Fmt.{decimal_by_steps}
use Rattle.hex.specs.Hex.{IsBytes, encode_lower}
use Rattle.text_tokens.specs.Words.{spaced, line_text, IsWord, AreWords, is_lower_digit, stands_out}
use Rattle.text_tokens.proofs.Cuts.{is_space}
use Rattle.text_tokens.proofs.Digits.{digits}

no_space : (b : ℕ) → stands_out b ≡ true → is_space b ≡ false
no_space b h = grind arith

spaceless : (word : List ℕ) → IsWord word → All (λ b. is_space b ≡ false) word
spaceless word is = All-weaker (λ b. stands_out b ≡ true) (λ b. is_space b ≡ false) no_space word (AllPass-from_list_all stands_out word is)

-- a word before a space
pub cut_word : (word rest : List ℕ) → IsWord word → slice_split is_space (word ++ 32 ∷ rest) ≡ word ∷ slice_split is_space rest
cut_word word rest is = slice_split_at is_space word 32 rest (spaceless word is) refl

pub cut_spaced : (words : List (List ℕ)) → AreWords words → 0 < length words → slice_split is_space (spaced words) ≡ words
cut_spaced [] are some = absurd (omega arith)
cut_spaced (w ∷ []) are some = slice_split_none is_space w (spaceless w are.0)
cut_spaced (w ∷ v ∷ words) are some =
    cut_word w (spaced (v ∷ words)) are.0 ∙ ap (λ (l : List (List ℕ)). w ∷ l) (cut_spaced (v ∷ words) are.1 (omega arith))

pub spaced_cut : (text : List ℕ) → spaced (slice_split is_space text) ≡ text
spaced_cut text = join_with_byte-slice_split 32 text

-- ---- numbers and hexadecimal are words

all_append : (p : ℕ → Bool) (a b : List ℕ) → list_all p a ≡ true → list_all p b ≡ true → list_all p (a ++ b) ≡ true
all_append p a b ha hb = list_all-append p a b ∙ rw (ha, hb) refl

digit_stands : (d : ℕ) → d < 10 → IsWord ((48 + d) ∷ [])
digit_stands d lt = grind arith

pub decimal_word : (n : ℕ) → n < 2 ^ 64 → IsWord (decimal n)
decimal_word n small =
    decimal_by_steps (λ n ds. IsWord ds) digit_stands (λ n ds le is. all_append stands_out ds ((48 + n % 10) ∷ []) is (digit_stands (n % 10) (omega arith))) n small

lower_stands : (c : ℕ) → is_lower_digit c ≡ true → stands_out c ≡ true
lower_stands c h = grind arith

all_more : (p q : ℕ → Bool) → ((c : ℕ) → p c ≡ true → q c ≡ true) → (l : List ℕ) → list_all p l ≡ true → list_all q l ≡ true
all_more p q more [] h = refl
all_more p q more (x ∷ l) h = let parts = and_parts _ _ h in rw (more x parts.0, all_more p q more l parts.1) refl

pub hex_word : (bytes : List ℕ) → IsBytes bytes → IsWord (encode_lower bytes)
hex_word bytes fits = all_more is_lower_digit stands_out lower_stands (encode_lower bytes) (digits bytes fits)

-- ---- lines

word_in_line : (b : ℕ) → stands_out b ≡ true → nat_le 32 b ≡ true
word_in_line b h = grind arith

pub line_bytes : (words : List (List ℕ)) → AreWords words → list_all (λ b. nat_le 32 b) (spaced words) ≡ true
line_bytes [] are = refl
line_bytes (w ∷ []) are = all_more stands_out (λ b. nat_le 32 b) word_in_line w are.0
line_bytes (w ∷ v ∷ words) are =
    all_append (λ b. nat_le 32 b) w (32 ∷ spaced (v ∷ words)) (all_more stands_out (λ b. nat_le 32 b) word_in_line w are.0) (line_bytes (v ∷ words) are.1)

no_feed : (c : ℕ) → nat_le 32 c ≡ true → (c == 10) ≡ false
no_feed c h = grind arith

-- a line ends at its first line feed
cut_line : (words : List (List ℕ)) (rest : List ℕ) → AreWords words → slice_split (λ c. c == 10) (spaced words ++ 10 ∷ rest) ≡ spaced words ∷ slice_split (λ c. c == 10) rest
cut_line words rest are =
    let none = All-weaker (λ c. nat_le 32 c ≡ true) (λ c. (c == 10) ≡ false) no_feed (spaced words) (AllPass-from_list_all (λ c. nat_le 32 c) (spaced words) (line_bytes words are)) in
    slice_split_at (λ c. c == 10) (spaced words) 10 rest none refl

pub same_line : (a b : List (List ℕ)) (r s : List ℕ) → AreWords a → AreWords b → 0 < length a → 0 < length b → line_text a ++ r ≡ line_text b ++ s → (a ≡ b) × (r ≡ s)
same_line a b r s are_a are_b some_a some_b e =
    let regrouped : spaced a ++ 10 ∷ r ≡ spaced b ++ 10 ∷ s = sym (append_assoc (spaced a) (10 ∷ []) r) ∙ e ∙ append_assoc (spaced b) (10 ∷ []) s in
    let cut = sym (cut_line a r are_a) ∙ ap (slice_split (λ c. c == 10)) regrouped ∙ cut_line b s are_b in
    let same : spaced a ≡ spaced b = cc in
    let rest = append_cancel_left (spaced b) (10 ∷ r) (10 ∷ s) (ap (λ (t : List ℕ). t ++ 10 ∷ r) (sym same) ∙ regrouped) in
    (sym (cut_spaced a are_a some_a) ∙ ap (slice_split is_space) same ∙ cut_spaced b are_b some_b, cc)

-- a word more at the front
pub line_cons : (word : List ℕ) (words : List (List ℕ)) → 0 < length words → line_text (word ∷ words) ≡ (word ++ 32 ∷ []) ++ line_text words
line_cons word [] some = absurd (omega arith)
line_cons word (v ∷ words) some = simp append_assoc

pub spaced_more : (word : List ℕ) (words : List (List ℕ)) → (words ≡ [] → ⊥) → spaced (word ∷ words) ≡ word ++ 32 ∷ spaced words
spaced_more word [] some = absurd (some refl)
spaced_more word (v ∷ words) some = refl
