-- The code points of texts in UTF-8, and parts of lists.
use Rattle.std.proofs.Common.{◌≡◌, ℕ, ◌+◌, ◌-◌, ◌*◌, ◌/◌, ◌%◌, ◌<◌, ◌≤◌, Bool, true, false, cond, List, [], ◌∷◌, ◌++◌, length, arith, refl, sym, ◌∙◌, ap, length-append, append_assoc, subst, ◌⊎◌, inl, inr}
use Rattle.std.proofs.lemmas.Grind.{common_steps}
use Rattle.std.proofs.lemmas.Str.{length-encode, len_utf8_bounds, encodes-chars, encodes-append}
use Rattle.std.specs.Char.{IsScalar}
use Rattle.std.specs.List.{AllByRecursion, count_by, sum_by}
use Rattle.std.specs.Str.{chars, IsUtf8}
use Rattle.std.proofs.lemmas.List.{append-nil}
use Rattle.std.proofs.lemmas.List.Sums.{sum_by-append}
use lib.Dec.{ltb, leb, lt→ltb}
use lib.Utf8.{encode, encodes, next}
use Rattle.std.proofs.lemmas.Bool.{cases_lt}
use Rattle.session_words.specs.EvseTexts.{begins_point, code_points, IsEvseText}
use Rattle.word_values.specs.Items.{fitting, evse_bytes}

-- a byte counts as one where it begins a code point
abbrev counted : ℕ → ℕ
counted b = cond (begins_point b) 1 0

lead_counts : (b : ℕ) → 192 ≤ b → counted b ≡ 1
lead_counts b h = grind (arith, common_steps)

next_counts : (x : ℕ) → counted (next x) ≡ 0
next_counts x = let few : x % 64 < 64 = omega arith in grind (arith, common_steps)

own_counts : (c : ℕ) → c < 128 → counted c ≡ 1
own_counts c h = grind (arith, common_steps)

one : (c : ℕ) → c < 128 → code_points (c ∷ []) ≡ 1
one c h = rw (own_counts c h) refl

two : (b x : ℕ) → 192 ≤ b → code_points (b ∷ next x ∷ []) ≡ 1
two b x h = rw (lead_counts b h, next_counts x) refl

three : (b x y : ℕ) → 192 ≤ b → code_points (b ∷ next x ∷ next y ∷ []) ≡ 1
three b x y h = simp (lead_counts b h, next_counts) refl

four : (b x y z : ℕ) → 192 ≤ b → code_points (b ∷ next x ∷ next y ∷ next z ∷ []) ≡ 1
four b x y z h = simp (lead_counts b h, next_counts) refl

by_length : (c : ℕ) (p q r : Bool) → ltb c 128 ≡ p →
    code_points (cond p (c ∷ []) (cond q ((192 + c / 64) ∷ next c ∷ []) (cond r ((224 + c / 4096) ∷ next (c / 64) ∷ next c ∷ []) ((240 + c / 262144) ∷ next (c / 4096) ∷ next (c / 64) ∷ next c ∷ [])))) ≡ 1
by_length c true q r e = one c (grind (arith, common_steps))
by_length c false true r e = two (192 + c / 64) c (omega arith)
by_length c false false true e = three (224 + c / 4096) (c / 64) c (omega arith)
by_length c false false false e = four (240 + c / 262144) (c / 4096) (c / 64) c (omega arith)

-- a character has one byte that begins a code point
char_points : (c : ℕ) → code_points (encode c) ≡ 1
unfolding encode
char_points c = by_length c (ltb c 128) (ltb c 2048) (ltb c 65536) refl

pub text_points : (cs : List ℕ) → code_points (encodes cs) ≡ length cs
text_points [] = refl
text_points (c ∷ cs) =
    let split : code_points (encode c ++ encodes cs) ≡ code_points (encode c) + code_points (encodes cs) = sum_by-append counted (encode c) (encodes cs) in
    let own : code_points (encode c) ≡ 1 = char_points c in
    let others : code_points (encodes cs) ≡ length cs = text_points cs in
    omega arith

-- it has at most four bytes
pub text_bytes : (cs : List ℕ) → length (encodes cs) ≤ 4 * length cs
text_bytes [] = omega arith
text_bytes (c ∷ cs) =
    let split : length (encode c ++ encodes cs) ≡ length (encode c) + length (encodes cs) = length-append (encode c) (encodes cs) in
    let own : length (encode c) ≤ 4 = rw (length-encode c) ((len_utf8_bounds c).1) in
    let others : length (encodes cs) ≤ 4 * length cs = text_bytes cs in
    omega arith

-- a text has as many code points as bytes that begin one
pub points_counted : (bs : List ℕ) → IsUtf8 bs → code_points bs ≡ length (chars bs)
points_counted bs u =
    let e : encodes (chars bs) ≡ bs = encodes-chars bs u in
    let f : code_points (encodes (chars bs)) ≡ length (chars bs) = text_points (chars bs) in
    rw e at f

-- a text of so few code points has no more than 148 bytes
pub bytes_few : (bs : List ℕ) → IsUtf8 bs → length (chars bs) ≤ 37 → length bs ≤ 148
bytes_few bs u few =
    let e : encodes (chars bs) ≡ bs = encodes-chars bs u in
    let f : length (encodes (chars bs)) ≤ 4 * length (chars bs) = text_bytes (chars bs) in
    let g : length bs ≤ 4 * length (chars bs) = rw e at f in
    omega arith

-- ---- as many as fit

pub fitting_all : (n : ℕ) (xs : List ℕ) → length xs ≤ n → fitting n xs ≡ xs
fitting_all n xs h = grind (arith, common_steps)

pub fitting_none : (n : ℕ) (xs : List ℕ) → n < length xs → fitting n xs ≡ []
fitting_none n xs h = grind (arith, common_steps)

pub evse_same : (bs : List ℕ) → IsUtf8 bs → code_points bs ≤ 37 → evse_bytes (chars bs) ≡ bs
evse_same bs u few =
    let counted_are : code_points bs ≡ length (chars bs) = points_counted bs u in
    let e : fitting 37 (chars bs) ≡ chars bs = fitting_all 37 (chars bs) (omega arith) in
    ap encodes e ∙ encodes-chars bs u

pub evse_none : (bs : List ℕ) → IsUtf8 bs → ¬ (IsEvseText bs) → evse_bytes (chars bs) ≡ []
evse_none bs u off =
    elim (cases_lt 37 (length (chars bs))) [
      | inl many ↦ ap encodes (fitting_none 37 (chars bs) many)
      | inr few ↦
          let counted_are : code_points bs ≡ length (chars bs) = points_counted bs u in
          let points : code_points bs ≤ 37 = omega arith in
          absurd (off (bytes_few bs u few, points))
    ]

-- ---- a text that is made of one code point after the other

pub push_fits : (items front contents new text : List ℕ) (point c : ℕ) → items ≡ front ++ contents → contents ≡ point ∷ new → text ≡ encodes front
    → length items ≤ 37 → length text + length (encode c) ≤ 148
push_fits items front contents new text point c parts some text_is few =
    let all : length (front ++ contents) ≡ length front + length contents = length-append front contents in
    let items_are : length items ≡ length (front ++ contents) = ap length parts in
    let contents_are : length contents ≡ length (point ∷ new) = ap length some in
    let at_most : length (encodes front) ≤ 4 * length front = text_bytes front in
    let text_are : length text ≡ length (encodes front) = ap length text_is in
    let own : length (encode c) ≤ 4 = rw (length-encode c) ((len_utf8_bounds c).1) in
    omega arith

pub parts_more : (items front contents new : List ℕ) (point : ℕ) → items ≡ front ++ contents → contents ≡ point ∷ new → items ≡ (front ++ point ∷ []) ++ new
parts_more items front contents new point parts some =
    let joined : (front ++ point ∷ []) ++ new ≡ front ++ ((point ∷ []) ++ new) = append_assoc front (point ∷ []) new in
    parts ∙ ap (λ xs. front ++ xs) some ∙ sym joined

pub text_more : (text front after : List ℕ) (c point : ℕ) → text ≡ encodes front → after ≡ text ++ encode c → c ≡ point → after ≡ encodes (front ++ point ∷ [])
text_more text front after c point text_is after_is c_is =
    let joined : encodes (front ++ point ∷ []) ≡ encodes front ++ encodes (point ∷ []) = encodes-append front (point ∷ []) in
    let alone : encode point ++ [] ≡ encode point = append-nil (encode point) in
    let here : after ≡ encodes front ++ encode point = after_is ∙ ap (λ xs. xs ++ encode c) text_is ∙ ap (λ x. encodes front ++ encode x) c_is in
    here ∙ ap (λ xs. encodes front ++ xs) (sym alone) ∙ sym joined

pub few_more : (contents new : List ℕ) (point at : ℕ) → contents ≡ point ∷ new → length contents ≤ 37 - at → length new ≤ 37 - (at + 1)
few_more contents new point at some few =
    let contents_are : length contents ≡ length (point ∷ new) = ap length some in
    omega arith

pub scalars_more : (contents new : List ℕ) (point : ℕ) → contents ≡ point ∷ new → AllByRecursion (λ c. IsScalar c) contents → AllByRecursion (λ c. IsScalar c) new
scalars_more contents new point some all =
    let Holds : List ℕ → Type 0 = λ xs. AllByRecursion (λ c. IsScalar c) xs in
    let here : AllByRecursion (λ c. IsScalar c) (point ∷ new) = subst Holds some all in
    here.1

pub none_left : (new : List ℕ) → new ≡ [] → AllByRecursion (λ c. IsScalar c) new
none_left new none =
    let Holds : List ℕ → Type 0 = λ xs. AllByRecursion (λ c. IsScalar c) xs in
    subst Holds (sym none) tt

pub chars_few : (bs front : List ℕ) → IsUtf8 bs → bs ≡ encodes front → length front ≤ 37 → length (chars bs) ≤ 37
chars_few bs front u bs_are few =
    let counted_are : code_points bs ≡ length (chars bs) = points_counted bs u in
    let same : code_points bs ≡ code_points (encodes front) = ap code_points bs_are in
    let points : code_points (encodes front) ≡ length front = text_points front in
    omega arith
