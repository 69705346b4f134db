-- The longest front of a text that begins one of some words.
use Rattle.std.proofs.Common.{◌≡◌, ℕ, zero, suc, ◌+◌, ◌<◌, ◌≤◌, Bool, false, List, [], ◌∷◌, ◌++◌, length, get_or, map, take, drop, ◌⊎◌, inl, inr, Result, IfOk, IfErr, refl, sym, ap, ap₂, subst, ◌∙◌, append_assoc, arith}
use Rattle.std.specs.Prelude.{◌==◌, encode_utf8, Some, None, Option, slice_get, slice_index}
use Rattle.std.specs.Str.{encode_utf8_all, IsAscii}
use Rattle.std.proofs.lemmas.Bool.{cases_lt}
use Rattle.std.proofs.lemmas.Bool.Decides.{nat_tests}
use Rattle.std.proofs.lemmas.List.{length-append, length-take-le, take-append-drop, take-take, take_at, take-append-le, append_cancel_left}
use Rattle.std.proofs.lemmas.Str.{encodes-IsAscii, IsAscii-take, length-encode, len_utf8_bounds}
use Rattle.value_text.specs.declared.cursor.TextCursor.{TextCursor}
use Rattle.value_text.specs.Forms.{AgreesTo, AgreesMost, IsBest, IsOneOf, AreAscii, awaited_text}
use Rattle.value_text.specs.Fronts.{Begins}
use Rattle.value_text.specs.Scanning.{Passes, Takes, GoesWrong}
use Rattle.value_text.proofs.Outcomes.{ok_to, err_to}
use Rattle.value_text.proofs.FrontLaws.{Stops, longest_where_it_stops, takes_where_it_stops}

-- ---- bytes in common

one_word : (words : List (List ℕ)) (i j : ℕ) (a b : List ℕ) → i ≡ j → slice_get words i ≡ Some a → slice_get words j ≡ Some b → a ≡ b
one_word words i j a b same p q = let is : Some a ≡ Some b = sym p ∙ ap (slice_get words) same ∙ q in cc

-- the first n words and one more
up_to : (n i : ℕ) → i < n + 1 → (i < n) ⊎ (i ≡ n)
up_to n i lt = elim (cases_lt i n) [ inl below ↦ inl below | inr top ↦ inr (omega (arith, lt, top)) ]

most_with : (words : List (List ℕ)) (n : ℕ) (text word : List ℕ) (old count best : ℕ) → slice_get words n ≡ Some word → AgreesMost text word count → old ≤ best → count ≤ best
    → ((i : ℕ) (other : List ℕ) (more : ℕ) → i < n → slice_get words i ≡ Some other → AgreesTo text other more → more ≤ old)
    → (i : ℕ) (other : List ℕ) (more : ℕ) → i < n + 1 → slice_get words i ≡ Some other → AgreesTo text other more → more ≤ best
most_with words n text word old count best at agrees le le2 most i other more lt found h =
    elim (up_to n i lt) [
      | inl below ↦ omega (arith, most i other more below found h, le)
      | inr top ↦ omega (arith, agrees.1 more (subst (λ (w : List ℕ). AgreesTo text w more) (one_word words i n other word top found at) h), le2)
    ]

length_of_front : (text word : List ℕ) (count : ℕ) → count ≤ length text → word ≡ take count text → length word ≡ count
length_of_front text word count within is = ap length is ∙ length-take-le count text within

front_agrees : (text : List ℕ) (count : ℕ) → count ≤ length text → AgreesTo text (take count text) count
front_agrees text count within = (within, omega (arith, length-take-le count text within), sym (take-take count count text (omega arith)))

length_tested : (n m : ℕ) → n ≡ m → (n == m) ≡ false → ⊥
length_tested n m e h = grind (arith, nat_tests)

abbrev pub Comes : List (List ℕ) → ℕ → List ℕ → List ℕ → ℕ → Bool → Type 0
Comes words n text word count flag = (slice_get words n ≡ Some word) × AgreesMost text word count × (flag ≡ (length word == count))

-- no more of this word
pub stays_some : (words : List (List ℕ)) (n : ℕ) (text word : List ℕ) (old count j : ℕ) (flag : Bool) → Comes words n text word count flag → IsBest words n text old (Some j)
    → count ≤ old → IsBest words (n + 1) text old (Some j)
stays_some words n text word old count j flag comes best le = record {
  within = best.within;
  begins = best.begins;
  most = most_with words n text word old count old comes.0 comes.1 (omega arith) le best.most;
  is = best.is;
}

none_whole : (words : List (List ℕ)) (n : ℕ) (text word : List ℕ) (old count : ℕ) (flag : Bool) → Comes words n text word count flag → IsBest words n text old None
    → (count ≡ old → flag ≡ false) → count ≤ old → (i : ℕ) → i < n + 1 → slice_get words i ≡ Some (take old text) → ⊥
none_whole words n text word old count flag comes best other le i below found =
    elim (up_to n i below) [
      | inl before ↦ best.is i before found
      | inr same ↦
          let is = one_word words n i word (take old text) (sym same) comes.0 found in
          let agrees : AgreesTo text word old = subst (λ (w : List ℕ). AgreesTo text w old) (sym is) (front_agrees text old best.within) in
          let all : count ≡ old = omega (arith, le, comes.1.1 old agrees) in
          length_tested (length word) count (length_of_front text word old best.within is ∙ sym all) (sym comes.2 ∙ other all)
    ]

pub stays : (words : List (List ℕ)) (n : ℕ) (text word : List ℕ) (old count : ℕ) (flag : Bool) (whole : Option ℕ) → Comes words n text word count flag → IsBest words n text old whole
    → (count ≡ old → flag ≡ false) → count ≤ old → IsBest words (n + 1) text old whole
stays words n text word old count flag None comes best other le = record {
  within = best.within;
  begins = best.begins;
  most = most_with words n text word old count old comes.0 comes.1 (omega arith) le best.most;
  is = none_whole words n text word old count flag comes best other le;
}
stays words n text word old count flag (Some j) comes best other le = stays_some words n text word old count j flag comes best le

-- ---- what it says where a cursor stands

ascii_front : (words : List (List ℕ)) (n : ℕ) (text : List ℕ) (count : ℕ) (whole : Option ℕ) → AreAscii words → IsBest words n text count whole → IsAscii (take count text)
ascii_front words n text count whole ascii best =
    elim best.begins [
      | inl none ↦ λ i. subst (λ (k : ℕ). slice_index (take k text) i < 128) (sym none) (omega arith)
      | inr part ↦ subst IsAscii (sym part.3.2) (IsAscii-take part.1 count (ascii part.0 part.1 part.2))
    ]

pub best_ascii : (words : List (List ℕ)) (n : ℕ) (text : List ℕ) (count : ℕ) (whole : Option ℕ) → AreAscii words → IsBest words n text count whole → IsAscii (take count text)
best_ascii = ascii_front

begins_best : (words : List (List ℕ)) (n : ℕ) (text : List ℕ) (count : ℕ) (whole : Option ℕ) (first : List ℕ) → AreAscii words → slice_get words 0 ≡ Some first → IsBest words n text count whole
    → Begins (IsOneOf words) (take count text)
begins_best words n text count whole first ascii some best =
    let same = encodes-IsAscii (take count text) (ascii_front words n text count whole ascii best) in
    elim best.begins [
      | inl none ↦ (first, (0, some ∙ ap (λ (bs : List ℕ). Some (bs ++ first)) (ap (λ (k : ℕ). take k text) (sym none) ∙ sym same)))
      | inr part ↦ (drop count part.1, (part.0, part.2 ∙ ap (λ (bs : List ℕ). Some bs) (sym (take-append-drop count part.1) ∙ ap (λ (bs : List ℕ). bs ++ drop count part.1) (sym part.3.2 ∙ sym same))))
    ]

stops_best : (words : List (List ℕ)) (text : List ℕ) (count : ℕ) (whole : Option ℕ) → AreAscii words → IsBest words (length words) text count whole → Stops (IsOneOf words) (take count text) (drop count text)
stops_best words text count whole ascii best c more after there one =
    let same = encodes-IsAscii (take count text) (ascii_front words (length words) text count whole ascii best) in
    let size = length-take-le count text best.within in
    let front = take count text ++ encode_utf8 c in
    let word = take count text ++ (encode_utf8 c ++ after) in
    let found : slice_get words one.0 ≡ Some word = one.1 ∙ ap (λ (bs : List ℕ). Some (bs ++ (encode_utf8 c ++ after))) same in
    let text_is : text ≡ front ++ more = sym (take-append-drop count text) ∙ ap (λ (bs : List ℕ). take count text ++ bs) there ∙ sym (append_assoc (take count text) (encode_utf8 c) more) in
    let word_is : word ≡ front ++ after = sym (append_assoc (take count text) (encode_utf8 c) after) in
    let long : length front ≡ count + length (encode_utf8 c) = length-append (take count text) (encode_utf8 c) ∙ ap (λ (k : ℕ). k + length (encode_utf8 c)) size in
    let agrees : AgreesTo text word (length front) = (
      omega (arith, ap length text_is, length-append front more),
      omega (arith, ap length word_is, length-append front after),
      ap (λ (bs : List ℕ). take (length front) bs) text_is ∙ take_at front more (length front) refl ∙ sym (take_at front after (length front) refl) ∙ ap (λ (bs : List ℕ). take (length front) bs) (sym word_is),
    ) in
    let most = best.most one.0 word (length front) (slice_get-lt words one.0 word found) found agrees in
    omega (arith, most, long, char_length c)
  where
    char_length : (c : ℕ) → 0 < length (encode_utf8 c)
    char_length c = omega (arith, length-encode c, (len_utf8_bounds c).0)

    slice_get-lt : (xs : List (List ℕ)) (i : ℕ) (x : List ℕ) → slice_get xs i ≡ Some x → i < length xs
    slice_get-lt [] i x h = let wrong : None ≡ Some x = h in absurd cc
    slice_get-lt (y ∷ xs) zero x h = omega arith
    slice_get-lt (y ∷ xs) (suc i) x h = omega (arith, slice_get-lt xs i x h)

passes_best : (words : List (List ℕ)) (n : ℕ) (a b : TextCursor) (count : ℕ) (whole : Option ℕ) → AreAscii words → IsBest words n a.rest.now count whole → Passes a (take count a.rest.now) b → drop count a.rest.now ≡ b.rest.now
passes_best words n a b count whole ascii best passed =
    let same = encodes-IsAscii (take count a.rest.now) (ascii_front words n a.rest.now count whole ascii best) in
    append_cancel_left (take count a.rest.now) (drop count a.rest.now) b.rest.now (take-append-drop count a.rest.now ∙ passed.stands ∙ ap (λ (bs : List ℕ). bs ++ b.rest.now) same)

abbrev pub GivesWord : List (List ℕ) → TextCursor → ℕ → TextCursor → Type 0
GivesWord words a i b = (front : List ℕ) × Takes (IsOneOf words) a front b × (slice_get words i ≡ Some (encode_utf8_all front))

pub takes_best : (words : List (List ℕ)) (a b : TextCursor) (count i : ℕ) (whole : Option ℕ) → AreAscii words → IsBest words (length words) a.rest.now count whole → whole ≡ Some i → Passes a (take count a.rest.now) b
    → GivesWord words a i b
takes_best words a b count i whole ascii best is passed =
    let same = encodes-IsAscii (take count a.rest.now) (ascii_front words (length words) a.rest.now count whole ascii best) in
    let found : slice_get words i ≡ Some (encode_utf8_all (take count a.rest.now)) =
    (subst (λ (w : Option ℕ). IsBest words (length words) a.rest.now count w) is best).is ∙ ap (λ (bs : List ℕ). Some bs) (sym same) in (
      take count a.rest.now,
      takes_where_it_stops (IsOneOf words) a (take count a.rest.now) b passed (i, found)
          (subst (λ (rest : List ℕ). Stops (IsOneOf words) (take count a.rest.now) rest) (passes_best words (length words) a b count whole ascii best passed) (stops_best words a.rest.now count whole ascii best)),
      found,
    )

pub wrong_best : (words : List (List ℕ)) (a : TextCursor) (count place : ℕ) (whole : Option ℕ) (first : List ℕ) → AreAscii words → slice_get words 0 ≡ Some first → IsBest words (length words) a.rest.now count whole
    → whole ≡ None → place ≡ a.place + count → GoesWrong (IsOneOf words) a place
wrong_best words a count place whole first ascii some best is at =
    let front = take count a.rest.now in
    let same = encodes-IsAscii front (ascii_front words (length words) a.rest.now count whole ascii best) in
    let none = subst (λ (w : Option ℕ). IsBest words (length words) a.rest.now count w) is best in (
      front,
      longest_where_it_stops (IsOneOf words) a.rest.now front (drop count a.rest.now) (sym (take-append-drop count a.rest.now) ∙ ap (λ (bs : List ℕ). bs ++ drop count a.rest.now) (sym same))
          (begins_best words (length words) a.rest.now count whole first ascii some best) (stops_best words a.rest.now count whole ascii best),
      λ one. none.is one.0 (in_range words one.0 (encode_utf8_all front) one.1) (one.1 ∙ ap (λ (bs : List ℕ). Some bs) same),
      omega (arith, at, length-take-le count a.rest.now best.within),
    )
  where
    in_range : (xs : List (List ℕ)) (i : ℕ) (x : List ℕ) → slice_get xs i ≡ Some x → i < length xs
    in_range [] i x h = let wrong : None ≡ Some x = h in absurd cc
    in_range (y ∷ xs) zero x h = omega arith
    in_range (y ∷ xs) (suc i) x h = omega (arith, in_range xs i x h)

pub passes_ascii : (a b : TextCursor) (count : ℕ) → count ≤ length a.rest.now → IsAscii (take count a.rest.now) → b.rest.now ≡ drop count a.rest.now → b.place ≡ a.place + count → Passes a (take count a.rest.now) b
passes_ascii a b count within ascii rest place = record {
  stands = sym (take-append-drop count a.rest.now) ∙ ap₂ (λ (xs ys : List ℕ). xs ++ ys) (sym (encodes-IsAscii (take count a.rest.now) ascii)) (sym rest);
  counted = omega (arith, place, length-take-le count a.rest.now within);
}

pub ok_best : (words : List (List ℕ)) (a : TextCursor) (count : ℕ) (whole : Option ℕ) (r : Result (ℕ × TextCursor) ℕ) → AreAscii words → IsBest words (length words) a.rest.now count whole
    → IfOk r (λ x. (whole ≡ Some x.0) × Passes a (take count a.rest.now) x.1) → IfOk r (λ x. GivesWord words a x.0 x.1)
ok_best words a count whole r ascii best h =
    ok_to r (λ x. (whole ≡ Some x.0) × Passes a (take count a.rest.now) x.1) (λ x. GivesWord words a x.0 x.1) (λ x p. takes_best words a x.1 count x.0 whole ascii best p.0 p.1) h

pub first_word : (words : List (List ℕ)) → 0 < length words → (first : List ℕ) × (slice_get words 0 ≡ Some first)
first_word [] some = absurd (omega (arith, some))
first_word (word ∷ words) some = (word, refl)

pub err_best : (words : List (List ℕ)) (a : TextCursor) (count : ℕ) (whole : Option ℕ) (r : Result (ℕ × TextCursor) ℕ) → AreAscii words → 0 < length words → IsBest words (length words) a.rest.now count whole
    → IfErr r (λ place. (whole ≡ None) × (place ≡ a.place + count)) → IfErr r (GoesWrong (IsOneOf words) a)
err_best words a count whole r ascii some best h =
    let first = first_word words some in
    err_to r (λ place. (whole ≡ None) × (place ≡ a.place + count)) (GoesWrong (IsOneOf words) a) (λ place p. wrong_best words a count place whole first.0 ascii first.1 best p.0 p.1) h

pub all_words : (words : List (List ℕ)) (n m : ℕ) (text : List ℕ) (count : ℕ) (whole : Option ℕ) → n ≡ m → IsBest words n text count whole → IsBest words m text count whole
all_words words n m text count whole same best = subst (λ (k : ℕ). IsBest words k text count whole) same best

pub mapped_at : {X Y : Type 0} (f : X → Y) (xs : List X) (i : ℕ) (d : X) → i < length xs → slice_get (map f xs) i ≡ Some (f (get_or xs i d))
mapped_at f [] i d lt = absurd (omega (arith, lt))
mapped_at f (x ∷ xs) zero d lt = refl
mapped_at f (x ∷ xs) (suc i) d lt = mapped_at f xs i d (omega (arith, lt))

-- ---- a word and one more character

agrees_less : (text word : List ℕ) (more k : ℕ) → AgreesTo text word more → k ≤ more → AgreesTo text word k
agrees_less text word more k h le =
    (omega (arith, h.0, le), omega (arith, h.1, le), sym (take-take k more text le) ∙ ap (λ (bs : List ℕ). take k bs) h.2 ∙ take-take k more word le)

agrees_front : (text name end : List ℕ) (k : ℕ) → AgreesTo text (name ++ end) k → k ≤ length name → AgreesTo text name k
agrees_front text name end k h le = (h.0, le, h.2 ∙ take-append-le k name end le)

front_agreed : (text name end : List ℕ) (k : ℕ) → AgreesTo text name k → AgreesTo text (name ++ end) k
front_agreed text name end k h = (h.0, omega (arith, h.1, length-append name end), h.2 ∙ sym (take-append-le k name end h.1))

pub agreed_inside : (text name : List ℕ) (end count : ℕ) → end < 128 → AgreesMost text name count → count < length name → AgreesMost text (awaited_text name end) count
agreed_inside text name end count small h lt = (
  front_agreed text name (encode_utf8 end) count h.0,
  λ more agrees. elim (cases_lt (length name) more) [
    | inl beyond ↦ absurd (omega (arith, lt, h.1 (length name) (agrees_front text name (encode_utf8 end) (length name) (agrees_less text (awaited_text name end) more (length name) agrees (omega (arith, beyond))) (omega arith))))
    | inr within ↦ h.1 more (agrees_front text name (encode_utf8 end) more agrees within)
  ],
)
