-- A value is written in one way.
use Rattle.std.proofs.Common.{◌≡◌, ℕ, subst, ℤ, pos, ◌+ℤ◌, Bool, List, ◌++◌, length, sym, ap, ◌∙◌, arith, inl, inr, le_antisymm}
use Rattle.std.proofs.lemmas.Bool.{cases_lt}
use Rattle.std.proofs.lemmas.Int.{ints}
use Rattle.exi_spec.specs.Bits.{number_bits}
use Rattle.exi_spec.specs.Items.{shortest_unsigned}
use Rattle.exi_schema.specs.declared.tables.Datatype.{Datatype}
use Rattle.exi_schema.specs.declared.tables.Datatype.TheVariants.{Bool as BoolType, Named, Bounded, Unsigned, Signed, Binary, Text as TextType}
use Rattle.exi_reading.specs.Texts.{IsIndexWidth, IsFirstAt, IsAbsent, WritesHit, WritesText}
use Rattle.exi_reading.specs.Trees.{Value, Truth, Ordinal, Number, Bytes, Text}
use Rattle.exi_reading.specs.Values.{Entries, SpellsCode, SpellsBounded, WritesValue}

same_index_width : (n v w : ℕ) → IsIndexWidth n v → IsIndexWidth n w → v ≡ w
same_index_width n v w a b = le_antisymm (a.least w b.enough) (b.least v a.enough)

one_code : (count code : ℕ) (a b : List Bool) → SpellsCode count code a → SpellsCode count code b → a ≡ b
one_code count code a b p q =
    p.spelled ∙ ap (λ (w : ℕ). number_bits w code) (same_index_width count p.width q.width p.is_width q.is_width) ∙ sym q.spelled

one_above : (least : ℤ) (k n : ℕ) → least +ℤ pos k ≡ least +ℤ pos n → k ≡ n
one_above least k n e = omega (arith, ints)

one_bounded : (least v : ℤ) (count : ℕ) (a b : List Bool) → SpellsBounded least count v a → SpellsBounded least count v b → a ≡ b
one_bounded least v count a b p q =
    let same : p.0 ≡ q.0 = one_above least p.0 q.0 (sym p.1 ∙ q.1) in
    one_code count q.0 a b (subst (λ (k : ℕ). SpellsCode count k a) same p.2) q.2

-- ---- texts

one_first : (partition : List (List ℕ)) (text : List ℕ) (i k : ℕ) → IsFirstAt partition text i → IsFirstAt partition text k → i ≡ k
one_first partition text i k p q =
    elim (cases_lt i k) [
      | inl less ↦ absurd (q.first i less p.found)
      | inr more ↦
          elim (cases_lt k i) [
            | inl less ↦ absurd (p.first k less q.found)
            | inr less ↦ le_antisymm less more
          ]
    ]

one_hit : (n : ℕ) (partition : List (List ℕ)) (text : List ℕ) (a b : List Bool) → WritesHit n partition text a → WritesHit n partition text b → a ≡ b
one_hit n partition text a b p q =
    let one = p.1 in
    let other = q.1 in
    let index : one.0 ≡ other.0 = one_first partition text one.0 other.0 one.2 other.2 in
    let width : one.1 ≡ other.1 = same_index_width (length partition) one.1 other.1 one.3 other.3 in
    p.2
    ∙ ap (λ (l : List Bool). shortest_unsigned n ++ l)
    (one.4 ∙ ap (λ (w : ℕ). number_bits w one.0) width ∙ ap (λ (k : ℕ). number_bits other.1 k) index ∙ sym other.4)
    ∙ sym q.2

no_hit : (n : ℕ) (partition : List (List ℕ)) (text : List ℕ) (a : List Bool) → IsAbsent partition text → WritesHit n partition text a → ⊥
no_hit n partition text a absent p = absent p.1.0 p.1.2.found

one_text : (entries : Entries) (name : ℕ) (text : List ℕ) (a b : List Bool) (x y : Entries) → WritesText entries name text a x → WritesText entries name text b y → a ≡ b
one_text entries name text a b x y (inl p) (inl q) = one_hit _ _ text a b p.0 q.0
one_text entries name text a b x y (inl p) (inr (inl q)) = absurd (no_hit _ _ text a q.0 p.0)
one_text entries name text a b x y (inl p) (inr (inr q)) = absurd (no_hit _ _ text a q.0 p.0)
one_text entries name text a b x y (inr (inl p)) (inl q) = absurd (no_hit _ _ text b p.0 q.0)
one_text entries name text a b x y (inr (inl p)) (inr (inl q)) = one_hit _ _ text a b p.1 q.1
one_text entries name text a b x y (inr (inl p)) (inr (inr q)) = absurd (no_hit _ _ text a q.1 p.1)
one_text entries name text a b x y (inr (inr p)) (inl q) = absurd (no_hit _ _ text b p.0 q.0)
one_text entries name text a b x y (inr (inr p)) (inr (inl q)) = absurd (no_hit _ _ text b p.1 q.1)
one_text entries name text a b x y (inr (inr p)) (inr (inr q)) = p.2 ∙ sym q.2

pub one_writing : (datatype : Datatype) (entries : Entries) (name : ℕ) (v : Value) (a b : List Bool) (x y : Entries) → WritesValue datatype entries name v a x → WritesValue datatype entries name v b y → a ≡ b
one_writing BoolType entries name (Truth truth) a b x y p q = p.0 ∙ sym q.0
one_writing (Named count) entries name (Ordinal ordinal) a b x y p q = one_code count ordinal a b p.0 q.0
one_writing (Bounded least count) entries name (Number v) a b x y p q = one_bounded least v count a b p.0 q.0
one_writing (Unsigned most) entries name (Number (pos n)) a b x y p q = p.1 ∙ sym q.1
one_writing (Signed least most) entries name (Number v) a b x y p q = p.2 ∙ sym q.2
one_writing (Binary most) entries name (Bytes bytes) a b x y p q = p.1 ∙ sym q.1
one_writing (TextType most) entries name (Text chars) a b x y p q = one_text entries name chars a b x y p.1 q.1
one_writing _ entries name _ a b x y p q = absurd p
