-- What is written of a value spells it, and is written in one way.
use Rattle.std.proofs.Common.{◌≡◌, ℕ, zero, suc, ◌+◌, ◌^◌, ◌<◌, ◌≤◌, ℤ, pos, negsuc, ◌+ℤ◌, neg_ℤ, ◌≤ℤ◌, Bool, true, ◌&&◌, leb→le, FitsSigned, w64, List, [], ◌∷◌, ◌++◌, length, Some, None, slice_get, refl, sym, ap, ap₂, subst, ◌∙◌, arith, inl, inr, lt_of_lt_of_le}
use Rattle.std.specs.List.{AllByRecursion}
use Rattle.std.specs.Char.{IsScalar}
use lib.Utf8.{scalar_fits}
use Rattle.std.proofs.Math.IntN.{+ℤ_assoc, +ℤ_invl, +ℤ_idl}
use Rattle.std.proofs.lemmas.Bool.{cases_lt, ltb-true}
use Rattle.std.specs.Int.Signed.{le_z}
use Rattle.exi_spec.specs.Bits.{number_bits, bits_of}
use Rattle.exi_spec.specs.Items.{SpellsUnsigned, SpellsInteger, SpellsChars, shortest_unsigned, shortest_integer, shortest_chars}
use Rattle.exi_spec.proofs.ShortestLaws.{shortest}
use Rattle.exi_schema.specs.declared.tables.Datatype.{Datatype}
use Rattle.exi_schema.specs.declared.tables.Datatype.TheVariants.{Bool as BoolType, Named, Bounded, Unsigned, Signed, Binary, Text as TextType}
use Rattle.exi_schema.specs.Schemas.{PlainSchema, is_signed, is_datatype}
use Rattle.exi_schema.specs.Steps.{simple_at}
use Rattle.exi_schema.proofs.Conditions.{and-l, and-r, datatype_fits}
use Rattle.exi_documents.specs.Table.{global_of, local_of}
use Rattle.exi_documents.specs.Texts.{SpellsIndex, Announces, SpellsText, IsFirstAt, IsAbsent, WritesIndex, WritesHit, WritesText}
use Rattle.exi_documents.specs.Trees.{Value, Truth, Ordinal, Number, Bytes, Text}
use Rattle.exi_documents.specs.Values.{Entries, SpellsCode, WritesValue}
use Rattle.document_laws.specs.Laws.{IsInRange, WritesOnce, IsSpelled}
use Rattle.document_laws.proofs.IndexWidths.{same_index_width}

-- ---- it spells the value

pub shortest_spells : (n : ℕ) → n < 2 ^ 64 → SpellsUnsigned n (shortest_unsigned n)
shortest_spells n range = (shortest n range).spelled

below_most : (n : ℕ) (most : ℤ) → FitsSigned w64 most → pos n ≤ℤ most → n < 2 ^ 64
below_most n (pos m) fits h = let less : n ≤ m = leb→le n m h.le in let low : m < 2 ^ 63 = fits.sfits in omega (arith, less, low)
below_most n (negsuc m) fits h = absurd h.le

above_least : (n : ℕ) (least : ℤ) → FitsSigned w64 least → least ≤ℤ negsuc n → n < 2 ^ 64
above_least n (pos m) fits h = absurd h.le
above_least n (negsuc m) fits h = let less : n ≤ m = leb→le n m h.le in let low : m < 2 ^ 63 = fits.sfits in omega (arith, less, low)

integer_spells : (v least most : ℤ) → FitsSigned w64 least → FitsSigned w64 most → least ≤ℤ v → v ≤ℤ most → SpellsInteger v (shortest_integer v)
integer_spells (pos n) least most f g low high = (refl, shortest_spells n (below_most n most g high))
integer_spells (negsuc n) least most f g low high = (refl, shortest_spells n (above_least n least f low))

chars_spell : (chars : List ℕ) → AllByRecursion (λ char. IsScalar char) chars → SpellsChars chars (shortest_chars chars)
chars_spell [] all = refl
chars_spell (char ∷ chars) all =
    let small : char < 2 ^ 32 = scalar_fits char all.0 in
    (shortest_unsigned char, shortest_chars chars, record { scalar = all.0; spelled = shortest_spells char (omega (arith, small)) }, chars_spell chars all.1, refl)

index_below : {X : Type 0} (xs : List X) (i : ℕ) (x : X) → slice_get xs i ≡ Some x → i < length xs
index_below [] i x h = let wrong : None ≡ Some x = h in absurd cc
index_below (y ∷ xs) zero x h = omega arith
index_below (y ∷ xs) (suc i) x h = let less = index_below xs i x h in omega (arith, less)

hit_spells : (n : ℕ) (partition : List (List ℕ)) (text : List ℕ) (bits : List Bool) → n < 2 ^ 64 → WritesHit n partition text bits → Announces n (SpellsIndex partition text) bits
hit_spells n partition text bits range h =
    let w = h.1 in
    let below = index_below partition w.0 text w.2.found in (
      shortest_unsigned n,
      h.0,
      shortest_spells n range,
      record { index = w.0; width = w.1; is_width = w.3; found = w.2.found; spelled = record { range = lt_of_lt_of_le below w.3.enough; spelled = w.4 } },
      h.2,
    )

text_spells : (most : ℕ) (entries : Entries) (name : ℕ) (chars : List ℕ) (bits : List Bool) (after : Entries) → most < 2 ^ 32 → length chars ≤ most → AllByRecursion (λ char. IsScalar char) chars → WritesText entries name chars bits after → SpellsText most entries name chars bits after
text_spells most entries name chars bits after few within all (inl h) =
    record { within = within; spelled = inl (inl (hit_spells 0 (local_of name entries) chars bits (omega arith) h.0), h.1) }
text_spells most entries name chars bits after few within all (inr (inl h)) =
    record { within = within; spelled = inl (inr (hit_spells 1 (global_of entries) chars bits (omega arith) h.1), h.2) }
text_spells most entries name chars bits after few within all (inr (inr h)) =
    record {
      within = within;
      spelled = inr ((shortest_unsigned (length chars + 2), shortest_chars chars, shortest_spells (length chars + 2) (omega (arith, few, within)), chars_spell chars all, h.2), h.3);
    }

pub value_spelled : (d : Datatype) (entries : Entries) (name : ℕ) (v : Value) → IsInRange d → IsSpelled d entries name v
value_spelled BoolType entries name (Truth t) fits bits after h = h
value_spelled (Named count) entries name (Ordinal n) fits bits after h = h
value_spelled (Bounded least count) entries name (Number n) fits bits after h = h
value_spelled (Unsigned most) entries name (Number (pos n)) fits bits after h =
    (h.0, subst (λ (l : List Bool). SpellsUnsigned n l) (sym h.1) (shortest_spells n (omega (arith, h.0, fits))), h.2)
value_spelled (Signed least most) entries name (Number v) fits bits after h =
    (h.0, h.1, subst (λ (l : List Bool). SpellsInteger v l) (sym h.2) (integer_spells v least most fits.0 fits.1 h.0 h.1), h.3)
value_spelled (Binary most) entries name (Bytes bytes) fits bits after h =
    (h.0.0, (shortest_unsigned (length bytes), bits_of bytes, shortest_spells (length bytes) (omega (arith, h.0.0, fits)), record { range = h.0.1; spelled = refl }, h.1), h.2)
value_spelled (TextType most) entries name (Text chars) fits bits after h = (text_spells most entries name chars bits after fits h.0.0 h.0.1 h.1, h.2)
value_spelled d entries name v fits bits after h = absurd h

-- ---- it is written in one way

code_once : (count code : ℕ) (a b : List Bool) → SpellsCode count code a → SpellsCode count code b → a ≡ b
code_once count code a b p q =
    p.spelled ∙ ap (λ (w : ℕ). number_bits w code) (same_index_width count p.width q.width p.is_width q.is_width) ∙ sym q.spelled

first_once : (partition : List (List ℕ)) (text : List ℕ) (i j : ℕ) → IsFirstAt partition text i → IsFirstAt partition text j → i ≡ j
first_once partition text i j p q =
    elim (cases_lt i j) [
      | inl less ↦ absurd (q.first i less p.found)
      | inr more ↦ elim (cases_lt j i) [
        | inl less ↦ absurd (p.first j less q.found)
        | inr no_more ↦ omega (arith, more, no_more)
      ]
    ]

index_once : (partition : List (List ℕ)) (text : List ℕ) (a b : List Bool) → WritesIndex partition text a → WritesIndex partition text b → a ≡ b
index_once partition text a b p q =
    p.4 ∙ ap₂ (λ (w i : ℕ). number_bits w i) (same_index_width (length partition) p.1 q.1 p.3 q.3) (first_once partition text p.0 q.0 p.2 q.2) ∙ sym q.4

hit_once : (n : ℕ) (partition : List (List ℕ)) (text : List ℕ) (a b : List Bool) → WritesHit n partition text a → WritesHit n partition text b → a ≡ b
hit_once n partition text a b p q =
    p.2 ∙ ap (λ (l : List Bool). shortest_unsigned n ++ l) (index_once partition text p.0 q.0 p.1 q.1) ∙ sym q.2

absent_not : (n : ℕ) (partition : List (List ℕ)) (text : List ℕ) (bits : List Bool) → IsAbsent partition text → WritesHit n partition text bits → ⊥
absent_not n partition text bits absent h = absent h.1.0 h.1.2.found

text_once : (entries : Entries) (name : ℕ) (chars : List ℕ) (a b : List Bool) (after other : Entries) → WritesText entries name chars a after → WritesText entries name chars b other → (a ≡ b) × (after ≡ other)
text_once entries name chars a b after other (inl p) (inl q) = (hit_once 0 (local_of name entries) chars a b p.0 q.0, p.1 ∙ sym q.1)
text_once entries name chars a b after other (inl p) (inr (inl q)) = absurd (absent_not 0 (local_of name entries) chars a q.0 p.0)
text_once entries name chars a b after other (inl p) (inr (inr q)) = absurd (absent_not 0 (local_of name entries) chars a q.0 p.0)
text_once entries name chars a b after other (inr (inl p)) (inl q) = absurd (absent_not 0 (local_of name entries) chars b p.0 q.0)
text_once entries name chars a b after other (inr (inl p)) (inr (inl q)) = (hit_once 1 (global_of entries) chars a b p.1 q.1, p.2 ∙ sym q.2)
text_once entries name chars a b after other (inr (inl p)) (inr (inr q)) = absurd (absent_not 1 (global_of entries) chars a q.1 p.1)
text_once entries name chars a b after other (inr (inr p)) (inl q) = absurd (absent_not 0 (local_of name entries) chars b p.0 q.0)
text_once entries name chars a b after other (inr (inr p)) (inr (inl q)) = absurd (absent_not 1 (global_of entries) chars b p.1 q.1)
text_once entries name chars a b after other (inr (inr p)) (inr (inr q)) = (p.2 ∙ sym q.2, p.3 ∙ sym q.3)

same_above : (least : ℤ) (k j : ℕ) → least +ℤ pos k ≡ least +ℤ pos j → k ≡ j
same_above least k j e =
    let back : (n : ℕ) → neg_ℤ least +ℤ (least +ℤ pos n) ≡ pos n =
    λ n. sym (+ℤ_assoc (neg_ℤ least) least (pos n)) ∙ ap (λ (z : ℤ). z +ℤ pos n) (+ℤ_invl least) ∙ +ℤ_idl (pos n) in
    let same : pos k ≡ pos j = sym (back k) ∙ ap (λ (z : ℤ). neg_ℤ least +ℤ z) e ∙ back j in cc

pub value_once : WritesOnce WritesValue
value_once BoolType entries name (Truth t) a b after other p q = (p.0 ∙ sym q.0, p.1 ∙ sym q.1)
value_once (Named count) entries name (Ordinal n) a b after other p q = (code_once count n a b p.0 q.0, p.1 ∙ sym q.1)
value_once (Bounded least count) entries name (Number n) a b after other p q =
    let same : p.0.0 ≡ q.0.0 = same_above least p.0.0 q.0.0 (sym p.0.1 ∙ q.0.1) in
    (code_once count q.0.0 a b (subst (λ (k : ℕ). SpellsCode count k a) same p.0.2) q.0.2, p.1 ∙ sym q.1)
value_once (Unsigned most) entries name (Number (pos n)) a b after other p q = (p.1 ∙ sym q.1, p.2 ∙ sym q.2)
value_once (Signed least most) entries name (Number v) a b after other p q = (p.2 ∙ sym q.2, p.3 ∙ sym q.3)
value_once (Binary most) entries name (Bytes bytes) a b after other p q = (p.1 ∙ sym q.1, p.2 ∙ sym q.2)
value_once (TextType most) entries name (Text chars) a b after other p q = text_once entries name chars a b after other p.1 q.1
value_once d entries name v a b after other p q = absurd p

-- ---- the datatypes of a schema

fits_signed : (z : ℤ) → is_signed z ≡ true → FitsSigned w64 z
fits_signed (pos n) is = record { sfits = ltb-true n (2 ^ 63) is }
fits_signed (negsuc n) is = record { sfits = ltb-true n (2 ^ 63) is }

in_range : (d : Datatype) → is_datatype d ≡ true → IsInRange d
in_range BoolType is = tt
in_range (Named count) is = tt
in_range (Bounded least count) is = tt
in_range (Unsigned most) is = ltb-true most (2 ^ 64) is
in_range (Signed least most) is =
    let two = and-l _ (is_signed most) is in
    (fits_signed least (and-r (le_z least most) (is_signed least) two), fits_signed most (and-r (le_z least most && is_signed least) (is_signed most) is))
in_range (Binary most) is = ltb-true most (2 ^ 32) is
in_range (TextType most) is = ltb-true most (2 ^ 32) is

pub range_at : (s : PlainSchema) (kind : ℕ) (d : Datatype) → simple_at s.kinds kind ≡ Some d → IsInRange d
range_at s kind d is = in_range d (datatype_fits s kind d is)
