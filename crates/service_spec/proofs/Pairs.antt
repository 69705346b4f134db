-- What spells a pair.
use Rattle.std.proofs.Common.{◌≡◌, ℕ, ◌==◌, ℤ, pos, negsuc, Bool, true, false, not, List, [], ◌∷◌, ◌++◌, refl, sym, ◌∙◌, subst, arith}
use Rattle.std.specs.Int.{IsInRange}
use Rattle.std.specs.List.{list_all}
use Rattle.std.specs.Str.Parse.{AllDigits}
use Rattle.std.proofs.lemmas.Bool.{and_parts}
use Rattle.std.proofs.lemmas.List.Folds.{list_all-append}
use Rattle.std.proofs.lemmas.Str.Parse.{digit_from_value}
use Rattle.service_spec.specs.declared.Value.{Value}
use Rattle.service_spec.specs.declared.Value.TheVariants.{Truth, Number, Text}
use Rattle.service_spec.specs.declared.Parameter.{Parameter}
use Rattle.service_spec.specs.Texts.{is_name_byte, is_word, has_name_length, is_a_name, is_text_byte, is_plain, has_text_length}
use Rattle.service_spec.specs.Wants.{HasNumber, Spells, SpellsPair, IsValue, IsPair}
use Rattle.service_spec.proofs.Pieces.{stays_whole, IsPiece}

-- ---- no `;` stands in a pair

all_append : (p : ℕ → Bool) (a b : List ℕ) → list_all p a ≡ true → list_all p b ≡ true → list_all p (a ++ b) ≡ true
all_append p a b ha hb = list_all-append p a b ∙ rw (ha, hb) refl

all_more : (p q : ℕ → Bool) → ((c : ℕ) → p c ≡ true → q c ≡ true) → (l : List ℕ) → list_all p l ≡ true → list_all q l ≡ true
all_more p q more [] h = refl
all_more p q more (x ∷ l) h = let parts = and_parts (p x) (list_all p l) h in rw (more x parts.0, all_more p q more l parts.1) refl

digit_byte : (c : ℕ) → IsInRange 48 57 c → stays_whole c ≡ true
digit_byte c h = grind arith

digits_whole : (ds : List ℕ) → AllDigits 10 ds → IsPiece ds
digits_whole [] d = refl
digits_whole (c ∷ ds) d = rw (digit_byte c (digit_from_value c d.0), digits_whole ds d.1) refl

number_whole : (z : ℤ) (text : List ℕ) → HasNumber z text → IsPiece text
number_whole (pos n) text h = digits_whole text h.0.0.1
number_whole (negsuc n) [] h = absurd h
number_whole (negsuc n) (c ∷ ds) h = rw (h.0, digits_whole ds h.1.0.0.1) refl

name_byte : (c : ℕ) → is_name_byte c ≡ true → stays_whole c ≡ true
name_byte c h = grind arith

text_byte : (c : ℕ) → is_text_byte c ≡ true → stays_whole c ≡ true
text_byte c h = (and_parts (not (c == 34)) (not (c == 59)) h).1

name_whole : (name : List ℕ) → is_a_name name ≡ true → IsPiece name
name_whole name h = all_more is_name_byte stays_whole name_byte name (and_parts (is_word name) (has_name_length name) h).0

value_whole : (value : Value) (text : List ℕ) → IsValue value → Spells value text → IsPiece text
value_whole (Truth true) text is h = subst IsPiece (sym h) refl
value_whole (Truth false) text is h = subst IsPiece (sym h) refl
value_whole (Number z) text is h = number_whole z text h
value_whole (Text inside) text is h =
    subst IsPiece (sym h)
    (all_append stays_whole (34 ∷ inside.now) (34 ∷ [])
    (all_append stays_whole (34 ∷ []) inside.now refl (all_more is_text_byte stays_whole text_byte inside.now (and_parts (is_plain inside.now) (has_text_length inside.now) is).0)) refl)

pub pair_whole : (pair : Parameter) (text : List ℕ) → IsPair pair → SpellsPair pair text → IsPiece text
pair_whole pair text is s =
    subst IsPiece (sym s.parts)
    (all_append stays_whole pair.name.now (61 ∷ s.behind) (name_whole pair.name.now is.name)
    (all_append stays_whole (61 ∷ []) s.behind refl (value_whole pair.value s.behind is.value s.value)))
