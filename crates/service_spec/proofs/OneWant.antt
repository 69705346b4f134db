-- A word spells one want: its pieces are those between `;`, a name ends at the first `=`, and a text is spelled by one value.
use Rattle.std.proofs.Common.{◌≡◌, ◌⊎◌, inl, inr, ℕ, ◌≤◌, suc, ℤ, pos, negsuc, Bool, true, false, List, [], ◌∷◌, ◌++◌, map, chars, Some, refl, sym, ap, subst, ◌∙◌, arith}
use Rattle.std.specs.Int.{IsInRange}
use Rattle.std.specs.List.{AllZip, AllByRecursion}
use Rattle.std.proofs.lemmas.Bool.{and_parts}
use Rattle.std.proofs.lemmas.List.Elements.{recursion_from_All}
use Rattle.std.proofs.lemmas.Str.Parse.{digit_from_value}
use Rattle.service_spec.specs.declared.Value.{Value}
use Rattle.service_spec.specs.declared.Value.TheVariants.{Truth, Number, Text}
use Rattle.service_spec.specs.declared.Parameter.{Parameter}
use Rattle.service_spec.specs.Services.{Content, Text as TextContent, Number as NumberContent, Said, content_of, said_of}
use Rattle.service_spec.specs.Texts.{is_name_byte, is_word, has_name_length}
use Rattle.service_spec.specs.Wants.{HasNumber, Spells, SpellsPair, IsPair, IsWant}
use Rattle.service_spec.proofs.Reading.{wanted_cut}

-- ---- values

-- a number begins with `-` or a digit
abbrev BeginsNumber : ℕ → Type 0
BeginsNumber c = (c ≡ 45) ⊎ IsInRange 48 57 c

begins : (z : ℤ) (text rest : List ℕ) (c : ℕ) → text ≡ c ∷ rest → HasNumber z text → BeginsNumber c
begins (pos n) [] rest c e h = absurd cc
begins (pos n) (d ∷ ds) rest c e h = let same : d ≡ c = cc in inr (subst (IsInRange 48 57) same (digit_from_value d h.0.0.1.0))
begins (negsuc n) [] rest c e h = absurd h
begins (negsuc n) (d ∷ ds) rest c e h = let same : d ≡ c = cc in inl (sym same ∙ h.0)

no_letter : (c : ℕ) → 57 ≤ c → BeginsNumber c → c ≡ 57
no_letter c above (inl e) = omega (arith, above, e)
no_letter c above (inr r) = omega (arith, above, r)

truth_number : (b : Bool) (z : ℤ) (text : List ℕ) → Spells (Truth b) text → HasNumber z text → ⊥
truth_number true z text e h = let bad = no_letter 116 (omega arith) (begins z text (114 ∷ 117 ∷ 101 ∷ []) 116 e h) in omega (arith, bad)
truth_number false z text e h = let bad = no_letter 102 (omega arith) (begins z text (97 ∷ 108 ∷ 115 ∷ 101 ∷ []) 102 e h) in omega (arith, bad)

no_quote : BeginsNumber 34 → ⊥
no_quote (inl e) = omega (arith, e)
no_quote (inr r) = omega (arith, r)

number_text : (z : ℤ) (inside text : List ℕ) → HasNumber z text → text ≡ 34 ∷ inside ++ 34 ∷ [] → ⊥
number_text z inside text h e = no_quote (begins z text _ 34 e h)

first_is : (c d : ℕ) (a b : List ℕ) → c ∷ a ≡ d ∷ b → c ≡ d
first_is c d a b e = cc

truth_text : (b : Bool) (inside text : List ℕ) → Spells (Truth b) text → text ≡ 34 ∷ inside ++ 34 ∷ [] → ⊥
truth_text true inside text e f =
    let bad : 116 ≡ 34 = first_is 116 34 (114 ∷ 117 ∷ 101 ∷ []) (inside ++ 34 ∷ []) (sym e ∙ f) in
    omega (arith, bad)
truth_text false inside text e f =
    let bad : 102 ≡ 34 = first_is 102 34 (97 ∷ 108 ∷ 115 ∷ 101 ∷ []) (inside ++ 34 ∷ []) (sym e ∙ f) in
    omega (arith, bad)

one_truth : (b c : Bool) (text : List ℕ) → Spells (Truth b) text → Spells (Truth c) text → content_of (Truth b) ≡ content_of (Truth c)
one_truth true true text p q = refl
one_truth false false text p q = refl
one_truth true false text p q =
    let bad : 116 ≡ 102 = first_is 116 102 (114 ∷ 117 ∷ 101 ∷ []) (97 ∷ 108 ∷ 115 ∷ 101 ∷ []) (sym p ∙ q) in
    absurd (omega (arith, bad))
one_truth false true text p q =
    let bad : 102 ≡ 116 = first_is 102 116 (97 ∷ 108 ∷ 115 ∷ 101 ∷ []) (114 ∷ 117 ∷ 101 ∷ []) (sym p ∙ q) in
    absurd (omega (arith, bad))

same_less : (n m : ℕ) → suc n ≡ suc m → n ≡ m
same_less n m e = omega (arith, e)

one_number : (z w : ℤ) (text : List ℕ) → HasNumber z text → HasNumber w text → z ≡ w
one_number (pos n) (pos m) text p q = ap pos (sym p.1 ∙ q.1)
one_number (pos n) (negsuc m) [] p q = absurd q
one_number (pos n) (negsuc m) (c ∷ ds) p q = let digit = digit_from_value c p.0.0.1.0 in absurd (omega (arith, digit, q.0))
one_number (negsuc n) (pos m) [] p q = absurd p
one_number (negsuc n) (pos m) (c ∷ ds) p q = let digit = digit_from_value c q.0.0.1.0 in absurd (omega (arith, digit, p.0))
one_number (negsuc n) (negsuc m) [] p q = absurd p
one_number (negsuc n) (negsuc m) (c ∷ ds) p q = ap negsuc (same_less n m (sym p.1.1 ∙ q.1.1))

same_inside : (a b : List ℕ) → a ++ 34 ∷ [] ≡ b ++ 34 ∷ [] → a ≡ b
same_inside [] [] e = refl
same_inside [] (c ∷ []) e = absurd cc
same_inside [] (c ∷ d ∷ b) e = absurd cc
same_inside (c ∷ []) [] e = absurd cc
same_inside (c ∷ d ∷ a) [] e = absurd cc
same_inside (c ∷ a) (d ∷ b) e =
    let first : c ≡ d = cc in
    let rest : a ++ 34 ∷ [] ≡ b ++ 34 ∷ [] = cc in
    let same : a ≡ b = same_inside a b rest in
    cc

one_text : (a b text : List ℕ) → text ≡ 34 ∷ a ++ 34 ∷ [] → text ≡ 34 ∷ b ++ 34 ∷ [] → a ≡ b
one_text a b text p q =
    let both : 34 ∷ (a ++ 34 ∷ []) ≡ 34 ∷ (b ++ 34 ∷ []) = sym p ∙ q in
    let rest : a ++ 34 ∷ [] ≡ b ++ 34 ∷ [] = cc in
    same_inside a b rest

one_value : (v w : Value) (text : List ℕ) → Spells v text → Spells w text → content_of v ≡ content_of w
one_value (Truth b) (Truth c) text p q = one_truth b c text p q
one_value (Truth b) (Number w) text p q = absurd (truth_number b w text p q)
one_value (Truth b) (Text u) text p q = absurd (truth_text b u.now text p q)
one_value (Number z) (Truth c) text p q = absurd (truth_number c z text q p)
one_value (Number z) (Number w) text p q = ap NumberContent (one_number z w text p q)
one_value (Number z) (Text u) text p q = absurd (number_text z u.now text p q)
one_value (Text t) (Truth c) text p q = absurd (truth_text c t.now text q p)
one_value (Text t) (Number w) text p q = absurd (number_text w t.now text q p)
one_value (Text t) (Text u) text p q = ap (λ (l : List ℕ). TextContent (chars l)) (one_text t.now u.now text p q)

-- ---- pairs

record Halves (a b x y : List ℕ) : Type 0 where
  names : a ≡ b
  values : x ≡ y

no_name_byte : is_name_byte 61 ≡ true → ⊥
no_name_byte e = let bad : false ≡ true = e in absurd cc

cut_once : (a b x y : List ℕ) → is_word a ≡ true → is_word b ≡ true → a ++ 61 ∷ x ≡ b ++ 61 ∷ y → Halves a b x y
cut_once [] [] x y p q e = record { names = refl; values = let same : x ≡ y = cc in same }
cut_once [] (c ∷ b) x y p q e =
    let first : c ≡ 61 = cc in
    absurd (no_name_byte (subst (λ (d : ℕ). is_name_byte d ≡ true) first (and_parts (is_name_byte c) (is_word b) q).0))
cut_once (c ∷ a) [] x y p q e =
    let first : c ≡ 61 = cc in
    absurd (no_name_byte (subst (λ (d : ℕ). is_name_byte d ≡ true) first (and_parts (is_name_byte c) (is_word a) p).0))
cut_once (c ∷ a) (d ∷ b) x y p q e =
    let first : c ≡ d = cc in
    let rest : a ++ 61 ∷ x ≡ b ++ 61 ∷ y = cc in
    let behind = cut_once a b x y (and_parts (is_name_byte c) (is_word a) p).1 (and_parts (is_name_byte d) (is_word b) q).1 rest in
    let same : a ≡ b = behind.names in
    record { names = (let whole : c ∷ a ≡ d ∷ b = cc in whole); values = behind.values }

abbrev said_with : List ℕ → Content → Said
said_with name content = record { name = chars name; content = Some content }

one_pair : (p q : Parameter) (text : List ℕ) → IsPair p → IsPair q → SpellsPair p text → SpellsPair q text → said_of p ≡ said_of q
one_pair p q text is other one two =
    let halves = cut_once p.name.now q.name.now one.behind two.behind (and_parts (is_word p.name.now) (has_name_length p.name.now) is.name).0
    (and_parts (is_word q.name.now) (has_name_length q.name.now) other.name).0 (sym one.parts ∙ two.parts) in
    let value = one_value p.value q.value two.behind (subst (Spells p.value) halves.values one.value) two.value in
    ap (λ (name : List ℕ). said_with name (content_of p.value)) halves.names ∙ ap (λ (content : Content). said_with q.name.now content) value

-- ---- wants

one_list : (ps qs : List Parameter) (pieces : List (List ℕ)) → AllByRecursion IsPair ps → AllByRecursion IsPair qs → AllZip SpellsPair ps pieces → AllZip SpellsPair qs pieces
    → map said_of ps ≡ map said_of qs
one_list [] [] pieces a b p q = refl
one_list [] (y ∷ qs) [] a b p q = absurd q
one_list [] (y ∷ qs) (t ∷ pieces) a b p q = absurd p
one_list (x ∷ ps) [] [] a b p q = absurd p
one_list (x ∷ ps) [] (t ∷ pieces) a b p q = absurd q
one_list (x ∷ ps) (y ∷ qs) [] a b p q = absurd p
one_list (x ∷ ps) (y ∷ qs) (t ∷ pieces) a b p q =
    ap (λ (s : Said). s ∷ map said_of ps) (one_pair x y t a.0 b.0 p.0 q.0) ∙ ap (λ (l : List Said). said_of y ∷ l) (one_list ps qs pieces a.1 b.1 p.1 q.1)

pub one_wanted : (word : List ℕ) (one other : List Parameter) → IsWant word one → IsWant word other → map said_of one ≡ map said_of other
one_wanted word one other p q =
    one_list one other q.pieces (recursion_from_All IsPair one p.each) (recursion_from_All IsPair other q.each)
    (subst (AllZip SpellsPair one) (sym (wanted_cut word one p) ∙ wanted_cut word other q) p.spelled) q.spelled
