-- A text tells one value of a kind.
use Rattle.std.proofs.Common.{◌≡◌, ℕ, zero, suc, ◌<◌, ◌^◌, ℤ, pos, negsuc, Bool, true, false, List, [], ◌∷◌, ◌++◌, length, drop, refl, sym, ap, ap₂, subst, ◌∙◌, append_assoc, arith}
use Rattle.std.specs.Prelude.{Ok}
use Rattle.std.specs.Fmt.{decimal, signed_decimal}
use Rattle.std.specs.List.{AllByRecursion, flat_map}
use Rattle.std.specs.Str.Parse.{digits_value}
use Rattle.std.proofs.lemmas.Fmt.{decimal_is_IsNumeral_wide}
use Rattle.hex.specs.Hex.{IsBytes, encode_lower, decode_of}
use Rattle.hex.proofs.HexLemmas.{decode_of-encode_lower}
use Rattle.exi_schema.specs.Schemas.{PlainSchema}
use Rattle.exi_schema.specs.declared.tables.Datatype.{Datatype}
use Rattle.exi_schema.specs.declared.tables.Datatype.TheVariants.{Bool as BoolType, Named, Bounded, Unsigned, Signed, Binary, Text as TextType}
use Rattle.exi_documents.specs.Trees.{Value, Truth, Ordinal, Number, Bytes, Text}
use Rattle.value_text.specs.ValueText.{character_text, truth_text, value_names, IsShort, IsOfForm, IsValueText, IsFormed}
use Rattle.value_text.proofs.NumberLaws.{no_sign_alone}
use Rattle.value_text.proofs.PieceTexts.{one_piece, no_quote_first}
use Rattle.value_text.proofs.SchemaWords.{value_words, one_place}

one_truth : (a b : Bool) → truth_text a ≡ truth_text b → a ≡ b
one_truth true true e = refl
one_truth true false e = absurd (omega (arith, ap length e))
one_truth false true e = absurd (omega (arith, ap length e))
one_truth false false e = refl

one_decimal : (m n : ℕ) → m < 10 ^ 20 → n < 10 ^ 20 → decimal m ≡ decimal n → m ≡ n
one_decimal m n p q e =
    sym (decimal_is_IsNumeral_wide m (omega (arith, p))).1 ∙ ap (digits_value 10) e ∙ (decimal_is_IsNumeral_wide n (omega (arith, q))).1

one_number : (v w : ℤ) → IsShort v → IsShort w → signed_decimal v ≡ signed_decimal w → v ≡ w
one_number (pos m) (pos n) p q e = ap pos (one_decimal m n p q e)
one_number (pos m) (negsuc n) p q e = absurd (no_sign_alone m (decimal (suc n)) p e)
one_number (negsuc m) (pos n) p q e = absurd (no_sign_alone n (decimal (suc m)) q (sym e))
one_number (negsuc m) (negsuc n) p q e = ap negsuc (one_less m n (one_decimal (suc m) (suc n) p q (ap (λ (bs : List ℕ). drop 1 bs) e)))
  where
    one_less : (m n : ℕ) → suc m ≡ suc n → m ≡ n
    one_less m n e = omega (arith, e)

are_bytes : (bytes : List ℕ) → AllByRecursion (λ byte. byte < 256) bytes → IsBytes bytes
are_bytes [] all i = omega arith
are_bytes (b ∷ bytes) all zero = all.0
are_bytes (b ∷ bytes) all (suc i) = are_bytes bytes all.1 i

one_bytes : (a b : List ℕ) → AllByRecursion (λ byte. byte < 256) a → AllByRecursion (λ byte. byte < 256) b → encode_lower a ≡ encode_lower b → a ≡ b
one_bytes a b p q e =
    let same : Ok a ≡ Ok b = sym (decode_of-encode_lower a (are_bytes a p)) ∙ ap decode_of e ∙ decode_of-encode_lower b (are_bytes b q) in cc

-- a text between quotes is told from what stands behind it
pub inside_once : (a b x y : List ℕ) → flat_map character_text a ++ 34 ∷ x ≡ flat_map character_text b ++ 34 ∷ y → (a ≡ b) × (x ≡ y)
inside_once [] [] x y e = (refl, ap (λ (bs : List ℕ). drop 1 bs) e)
inside_once [] (d ∷ b) x y e = absurd (no_quote_first d (flat_map character_text b ++ 34 ∷ y) x (sym (append_assoc (character_text d) (flat_map character_text b) (34 ∷ y)) ∙ sym e))
inside_once (c ∷ a) [] x y e = absurd (no_quote_first c (flat_map character_text a ++ 34 ∷ x) y (sym (append_assoc (character_text c) (flat_map character_text a) (34 ∷ x)) ∙ e))
inside_once (c ∷ a) (d ∷ b) x y e =
    let firsts = one_piece c d (flat_map character_text a ++ 34 ∷ x) (flat_map character_text b ++ 34 ∷ y)
    (sym (append_assoc (character_text c) (flat_map character_text a) (34 ∷ x)) ∙ e ∙ append_assoc (character_text d) (flat_map character_text b) (34 ∷ y)) in
    let more = inside_once a b x y firsts.1 in
    (ap₂ (λ (n : ℕ) (ns : List ℕ). n ∷ ns) firsts.0 more.0, more.1)

-- values of one form
data OneForm (v w : Value) : Type 0 where
  truths : (a b : Bool) → v ≡ Truth a → w ≡ Truth b → OneForm v w
  ordinals : (a b : ℕ) → v ≡ Ordinal a → w ≡ Ordinal b → OneForm v w
  numbers : (a b : ℤ) → v ≡ Number a → w ≡ Number b → IsShort a → IsShort b → OneForm v w
  binaries : (a b : List ℕ) → v ≡ Bytes a → w ≡ Bytes b → AllByRecursion (λ byte. byte < 256) a → AllByRecursion (λ byte. byte < 256) b → OneForm v w
  texts : (a b : List ℕ) → v ≡ Text a → w ≡ Text b → OneForm v w

one_form : (d : Datatype) (v w : Value) → IsOfForm d v → IsOfForm d w → OneForm v w
one_form BoolType (Truth a) (Truth b) p q = truths a b refl refl
one_form BoolType (Truth a) _ p q = absurd q
one_form BoolType _ _ p q = absurd p
one_form (Named count) (Ordinal a) (Ordinal b) p q = ordinals a b refl refl
one_form (Named count) (Ordinal a) _ p q = absurd q
one_form (Named count) _ _ p q = absurd p
one_form (Bounded least count) (Number a) (Number b) p q = numbers a b refl refl p q
one_form (Bounded least count) (Number a) _ p q = absurd q
one_form (Bounded least count) _ _ p q = absurd p
one_form (Unsigned most) (Number a) (Number b) p q = numbers a b refl refl p q
one_form (Unsigned most) (Number a) _ p q = absurd q
one_form (Unsigned most) _ _ p q = absurd p
one_form (Signed least most) (Number a) (Number b) p q = numbers a b refl refl p q
one_form (Signed least most) (Number a) _ p q = absurd q
one_form (Signed least most) _ _ p q = absurd p
one_form (Binary most) (Bytes a) (Bytes b) p q = binaries a b refl refl p q
one_form (Binary most) (Bytes a) _ p q = absurd q
one_form (Binary most) _ _ p q = absurd p
one_form (TextType most) (Text a) (Text b) p q = texts a b refl refl
one_form (TextType most) (Text a) _ p q = absurd q
one_form (TextType most) _ _ p q = absurd p

pub one_value : (s : PlainSchema) (kind : ℕ) (d : Datatype) (v w : Value) (text : List ℕ) → IsFormed s kind d v text → IsFormed s kind d w text → v ≡ w
one_value s kind d v w text p q = told (one_form d v w p.0 q.0)
  where
    of : (x y : Value) → x ≡ y → IsValueText s kind x text → IsValueText s kind y text
    of x y e h = subst (λ (z : Value). IsValueText s kind z text) e h

    told : OneForm v w → v ≡ w
    told (truths a b e f) = e ∙ ap Truth (one_truth a b (sym (of v (Truth a) e p.1) ∙ of w (Truth b) f q.1)) ∙ sym f
    told (ordinals a b e f) = e ∙ ap Ordinal (one_place (value_names s kind) a b text (value_words s kind) (of v (Ordinal a) e p.1) (of w (Ordinal b) f q.1)) ∙ sym f
    told (numbers a b e f m n) = e ∙ ap Number (one_number a b m n (sym (of v (Number a) e p.1) ∙ of w (Number b) f q.1)) ∙ sym f
    told (binaries a b e f m n) = e ∙ ap Bytes (one_bytes a b m n (sym (of v (Bytes a) e p.1) ∙ of w (Bytes b) f q.1)) ∙ sym f
    told (texts a b e f) = e ∙ ap Text (inside_once a b [] [] (ap (λ (bs : List ℕ). drop 1 bs) (sym (of v (Text a) e p.1) ∙ of w (Text b) f q.1))).0 ∙ sym f
