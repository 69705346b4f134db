-- The bits of a value begin with one spelling of one value, or have one refusal.
use Rattle.std.proofs.Common.{◌≡◌, ℕ, ◌*◌, ◌<◌, ◌≤◌, ◌⊎◌, ℤ, pos, negsuc, ◌+ℤ◌, ◌≤ℤ◌, Bool, T, List, length, refl, sym, ap, subst, ◌∙◌, arith, inl, inr, lt_of_lt_of_le}
use Rattle.std.specs.Int.Signed.{le_z}
use Rattle.std.proofs.lemmas.Bool.{cases_lt, cases_Bool}
use Rattle.exi_spec.specs.Bits.{number_bits}
use Rattle.exi_spec.specs.Items.{SpellsBool, SpellsNumber, SpellsUnsigned, SpellsInteger, Begins, RefusesBits, RefusesUnsigned, RefusesInteger}
use Rattle.exi_spec.specs.Laws.{IsExact, SpellsNBytes}
use Rattle.exi_spec.proofs.Readers.{exact, booleans_read, numbers_read, unsigned_read, integers_read, binaries_read}
use Rattle.exi_schema.specs.declared.tables.Datatype.TheVariants.{Bool as BoolType, Named, Bounded, Unsigned, Signed, Binary}
use Rattle.exi_documents.specs.Trees.{Value, Truth, Ordinal, Number, Bytes, Text}
use Rattle.exi_documents.specs.declared.refusal.RefusalCause.{RefusalCause}
use Rattle.exi_documents.specs.declared.refusal.RefusalCause.TheVariants.{NoSuchValue, TooLong, OutOfRange}
use Rattle.exi_documents.specs.Values.{Entries, SpellsCode, SpellsValue, RefusesItem, RefusesCode, Exceeds, RefusesValue}
use Rattle.document_laws.specs.Laws.{Fault, IsValueExact}
use Rattle.document_laws.proofs.Exact.{AtStart, Inward, same_fault, item, item_inward, Sifts, SpellsSifted, RefusesSifted, sifted, Given, given, SpellsChained, RefusesChained, chained, same}
use Rattle.document_laws.proofs.IndexWidths.{same_index_width, index_width}

-- the value, with the same entries
abbrev pub kept : {V : Type 0} → (V → Value) → Entries → V → Value × Entries
kept value entries v = (value v, entries)

-- ---- a condition on a value

-- a value that meets a condition means another one, and one that doesn't is refused at the item's first bit
abbrev pub IsMet : {V W : Type 0} → (V → Type 0) → (V → W) → V → W → Type 0
IsMet Holds give v w = Holds v × (w ≡ give v)

abbrev pub IsUnmet : {V : Type 0} → (V → Type 0) → RefusalCause → V → Fault → Type 0
IsUnmet Fails why v fault = Fails v × (fault.0 ≡ why) × (fault.1 ≡ 0)

pub by_condition : {V W : Type 0} (Holds Fails : V → Type 0) (give : V → W) (why : RefusalCause) → ((v : V) → Holds v ⊎ Fails v) → ((v : V) → Holds v → Fails v → ⊥) → Sifts (IsMet Holds give) (IsUnmet Fails why)
by_condition {V} {W} Holds Fails give why decide not_both =
    record {
      choice = λ v. elim (decide v) [ inl holds ↦ inl (give v, (holds, refl)) | inr fails ↦ inr ((why, 0), (fails, refl, refl)) ];
      one_good = λ v w x p q. p.1 ∙ sym q.1;
      one_bad = λ v r s p q. same_fault r s (p.1 ∙ sym q.1) (p.2 ∙ sym q.2);
      apart = λ v w r p q. not_both v p.0 q.0;
    }

-- ---- Boolean

pub boolean : (entries : Entries) (name : ℕ) → IsValueExact BoolType entries name
boolean entries name =
    let values = kept (λ (t : Bool). Truth t) entries in
    same (SpellsSifted SpellsBool (Given values)) _ (AtStart (RefusesBits 1)) _ (given SpellsBool (AtStart (RefusesBits 1)) values (item SpellsBool (RefusesBits 1) (exact _ _ _ booleans_read)))
    (λ v bits h. subst (λ (w : Value × Entries). SpellsValue BoolType entries name w.0 bits w.1) (sym h.2) (h.1, refl))
    (λ v bits h. back v.0 v.1 bits h)
    (λ bits r h. h)
    (λ bits r h. h)
  where
    back : (value : Value) (after : Entries) (bits : List Bool) → SpellsValue BoolType entries name value bits after → SpellsSifted SpellsBool (Given (kept (λ (t : Bool). Truth t) entries)) (value, after) bits
    back (Truth t) after bits h = (t, h.0, ap (λ (es : Entries). (Truth t, es)) h.1)
    back (Ordinal n) after bits h = absurd h
    back (Number n) after bits h = absurd h
    back (Bytes bytes) after bits h = absurd h
    back (Text chars) after bits h = absurd h

-- ---- codes

pub code_exact : (count : ℕ) → IsExact (SpellsCode count) (λ bits (r : Fault). RefusesCode count bits r.0 × (r.1 ≡ 0))
code_exact count =
    let Holds : ℕ → Type 0 = λ code. code < count in
    let Fails : ℕ → Type 0 = λ code. count ≤ code in
    let give : ℕ → ℕ = λ code. code in
    let width = (index_width count).0 in
    let is_width = (index_width count).1 in
    same (SpellsSifted (SpellsNumber width) (IsMet Holds give)) (SpellsCode count)
    (RefusesSifted (SpellsNumber width) (AtStart (RefusesBits width)) (IsUnmet Fails NoSuchValue)) _
    (sifted (SpellsNumber width) (AtStart (RefusesBits width)) (IsMet Holds give) (IsUnmet Fails NoSuchValue) (item _ (RefusesBits width) (exact _ _ _ (numbers_read width)))
    (by_condition Holds Fails give NoSuchValue (λ v. cases_lt v count) (λ v less more. omega (arith, less, more))))
    (λ v bits h. subst (λ (c : ℕ). SpellsCode count c bits) (sym h.2.1) (record { below = h.2.0; width = width; is_width = is_width; spelled = h.1.spelled }))
    (λ v bits h.
    let e : h.width ≡ width = same_index_width count h.width width h.is_width is_width in
    (v, record { range = lt_of_lt_of_le h.below is_width.enough; spelled = subst (λ (w : ℕ). bits ≡ number_bits w v) e h.spelled }, (h.below, refl)))
    there
    back
  where
    width : ℕ
    width = (index_width count).0

    there : (bits : List Bool) (r : Fault) → RefusesSifted (SpellsNumber (index_width count).0) (AtStart (RefusesBits (index_width count).0)) (IsUnmet (λ code. count ≤ code) NoSuchValue) bits r → RefusesCode count bits r.0 × (r.1 ≡ 0)
    there bits r (inl h) = (record { width = (index_width count).0; is_width = (index_width count).1; refused = inl h.0 }, h.1)
    there bits r (inr h) = (record { width = (index_width count).0; is_width = (index_width count).1; refused = inr (h.0, h.2.0, h.1, h.2.1) }, h.2.2)

    split : (w : ℕ) (bits : List Bool) (r : Fault) → w ≡ (index_width count).0 → r.1 ≡ 0 →
        RefusesItem (RefusesBits w) bits r.0 ⊎ ((code : ℕ) × (count ≤ code) × Begins (SpellsNumber w code) bits × (r.0 ≡ NoSuchValue)) →
        RefusesSifted (SpellsNumber (index_width count).0) (AtStart (RefusesBits (index_width count).0)) (IsUnmet (λ code. count ≤ code) NoSuchValue) bits r
    split w bits r e at (inl h) = inl (subst (λ (k : ℕ). RefusesItem (RefusesBits k) bits r.0) e h, at)
    split w bits r e at (inr h) = inr (h.0, subst (λ (k : ℕ). Begins (SpellsNumber k h.0) bits) e h.2, (h.1, h.3, at))

    back : (bits : List Bool) (r : Fault) → RefusesCode count bits r.0 × (r.1 ≡ 0) → RefusesSifted (SpellsNumber (index_width count).0) (AtStart (RefusesBits (index_width count).0)) (IsUnmet (λ code. count ≤ code) NoSuchValue) bits r
    back bits r h = split h.0.width bits r (same_index_width count h.0.width (index_width count).0 h.0.is_width (index_width count).1) h.1 h.0.refused

pub named : (count : ℕ) (entries : Entries) (name : ℕ) → IsValueExact (Named count) entries name
named count entries name =
    let values = kept (λ (n : ℕ). Ordinal n) entries in
    same (SpellsSifted (SpellsCode count) (Given values)) _ _ _ (given (SpellsCode count) _ values (code_exact count))
    (λ v bits h. subst (λ (w : Value × Entries). SpellsValue (Named count) entries name w.0 bits w.1) (sym h.2) (h.1, refl))
    (λ v bits h. back v.0 v.1 bits h)
    (λ bits r h. h)
    (λ bits r h. h)
  where
    back : (value : Value) (after : Entries) (bits : List Bool) → SpellsValue (Named count) entries name value bits after → SpellsSifted (SpellsCode count) (Given (kept (λ (n : ℕ). Ordinal n) entries)) (value, after) bits
    back (Truth t) after bits h = absurd h
    back (Ordinal n) after bits h = (n, h.0, ap (λ (es : Entries). (Ordinal n, es)) h.1)
    back (Number n) after bits h = absurd h
    back (Bytes bytes) after bits h = absurd h
    back (Text chars) after bits h = absurd h

pub bounded : (least : ℤ) (count : ℕ) (entries : Entries) (name : ℕ) → IsValueExact (Bounded least count) entries name
bounded least count entries name =
    let values = kept (λ (n : ℕ). Number (least +ℤ pos n)) entries in
    same (SpellsSifted (SpellsCode count) (Given values)) _ _ _ (given (SpellsCode count) _ values (code_exact count))
    (λ v bits h. subst (λ (w : Value × Entries). SpellsValue (Bounded least count) entries name w.0 bits w.1) (sym h.2) ((h.0, refl, h.1), refl))
    (λ v bits h. back v.0 v.1 bits h)
    (λ bits r h. h)
    (λ bits r h. h)
  where
    back : (value : Value) (after : Entries) (bits : List Bool) → SpellsValue (Bounded least count) entries name value bits after → SpellsSifted (SpellsCode count) (Given (kept (λ (n : ℕ). Number (least +ℤ pos n)) entries)) (value, after) bits
    back (Truth t) after bits h = absurd h
    back (Ordinal n) after bits h = absurd h
    back (Number n) after bits h = (h.0.0, h.0.2, ap (λ (v : ℤ). (Number v, after)) h.0.1 ∙ ap (λ (es : Entries). (Number (least +ℤ pos h.0.0), es)) h.1)
    back (Bytes bytes) after bits h = absurd h
    back (Text chars) after bits h = absurd h

-- ---- integers

pub unsigned : (most : ℕ) (entries : Entries) (name : ℕ) → IsValueExact (Unsigned most) entries name
unsigned most entries name =
    let Holds : ℕ → Type 0 = λ n. n ≤ most in
    let Fails : ℕ → Type 0 = λ n. most < n in
    let values = kept (λ (n : ℕ). Number (pos n)) entries in
    same (SpellsSifted SpellsUnsigned (IsMet Holds values)) _ (RefusesSifted SpellsUnsigned (AtStart RefusesUnsigned) (IsUnmet Fails OutOfRange)) _
    (sifted SpellsUnsigned (AtStart RefusesUnsigned) (IsMet Holds values) (IsUnmet Fails OutOfRange) (item _ RefusesUnsigned (exact _ _ _ unsigned_read))
    (by_condition Holds Fails values OutOfRange decide (λ v less more. omega (arith, less, more))))
    (λ v bits h. subst (λ (w : Value × Entries). SpellsValue (Unsigned most) entries name w.0 bits w.1) (sym h.2.1) (h.2.0, h.1, refl))
    (λ v bits h. back v.0 v.1 bits h)
    there
    again
  where
    decide : (n : ℕ) → (n ≤ most) ⊎ (most < n)
    decide n = elim (cases_lt most n) [ inl more ↦ inr more | inr less ↦ inl less ]

    back : (value : Value) (after : Entries) (bits : List Bool) → SpellsValue (Unsigned most) entries name value bits after → SpellsSifted SpellsUnsigned (IsMet (λ n. n ≤ most) (kept (λ (n : ℕ). Number (pos n)) entries)) (value, after) bits
    back (Truth t) after bits h = absurd h
    back (Ordinal n) after bits h = absurd h
    back (Number (pos n)) after bits h = (n, h.1, (h.0, ap (λ (es : Entries). (Number (pos n), es)) h.2))
    back (Number (negsuc n)) after bits h = absurd h
    back (Bytes bytes) after bits h = absurd h
    back (Text chars) after bits h = absurd h

    there : (bits : List Bool) (r : Fault) → RefusesSifted SpellsUnsigned (AtStart RefusesUnsigned) (IsUnmet (λ n. most < n) OutOfRange) bits r → RefusesValue (Unsigned most) entries name bits r.0 r.1
    there bits r (inl h) = (inl h.0, h.1)
    there bits r (inr h) = (inr ((h.0, h.2.0, h.1), h.2.1), h.2.2)

    split : (bits : List Bool) (r : Fault) → r.1 ≡ 0 → RefusesItem RefusesUnsigned bits r.0 ⊎ (Exceeds most bits × (r.0 ≡ OutOfRange)) → RefusesSifted SpellsUnsigned (AtStart RefusesUnsigned) (IsUnmet (λ n. most < n) OutOfRange) bits r
    split bits r at (inl h) = inl (h, at)
    split bits r at (inr h) = inr (h.0.0, h.0.2, (h.0.1, h.1, at))

    again : (bits : List Bool) (r : Fault) → RefusesValue (Unsigned most) entries name bits r.0 r.1 → RefusesSifted SpellsUnsigned (AtStart RefusesUnsigned) (IsUnmet (λ n. most < n) OutOfRange) bits r
    again bits r h = split bits r h.1 h.0

le_or_not : (x y : ℤ) → (x ≤ℤ y) ⊎ ((x ≤ℤ y) → ⊥)
le_or_not x y =
    elim (cases_Bool (le_z x y)) [
      | inl is ↦ inl (record { le = subst (λ (b : Bool). T b) (sym is) tt })
      | inr isnt ↦ inr (λ h. subst (λ (b : Bool). T b) isnt h.le)
    ]

-- within a range, or not
within_or_not : (least most v : ℤ) → ((least ≤ℤ v) × (v ≤ℤ most)) ⊎ ((least ≤ℤ v) → (v ≤ℤ most) → ⊥)
within_or_not least most v =
    elim (le_or_not least v) [
      | inl low ↦ elim (le_or_not v most) [ inl high ↦ inl (low, high) | inr above ↦ inr (λ l h. above h) ]
      | inr below ↦ inr (λ l h. below l)
    ]

pub signed : (least most : ℤ) (entries : Entries) (name : ℕ) → IsValueExact (Signed least most) entries name
signed least most entries name =
    let Holds : ℤ → Type 0 = λ v. (least ≤ℤ v) × (v ≤ℤ most) in
    let Fails : ℤ → Type 0 = λ v. (least ≤ℤ v) → (v ≤ℤ most) → ⊥ in
    let values = kept (λ (v : ℤ). Number v) entries in
    same (SpellsSifted SpellsInteger (IsMet Holds values)) _ (RefusesSifted SpellsInteger (Inward RefusesInteger) (IsUnmet Fails OutOfRange)) _
    (sifted SpellsInteger (Inward RefusesInteger) (IsMet Holds values) (IsUnmet Fails OutOfRange) (item_inward _ RefusesInteger (exact _ _ _ integers_read))
    (by_condition Holds Fails values OutOfRange (within_or_not least most) (λ v within outside. outside within.0 within.1)))
    (λ v bits h. subst (λ (w : Value × Entries). SpellsValue (Signed least most) entries name w.0 bits w.1) (sym h.2.1) (h.2.0.0, h.2.0.1, h.1, refl))
    (λ v bits h. back v.0 v.1 bits h)
    there
    again
  where
    back : (value : Value) (after : Entries) (bits : List Bool) → SpellsValue (Signed least most) entries name value bits after → SpellsSifted SpellsInteger (IsMet (λ v. (least ≤ℤ v) × (v ≤ℤ most)) (kept (λ (v : ℤ). Number v) entries)) (value, after) bits
    back (Truth t) after bits h = absurd h
    back (Ordinal n) after bits h = absurd h
    back (Number v) after bits h = (v, h.2, ((h.0, h.1), ap (λ (es : Entries). (Number v, es)) h.3))
    back (Bytes bytes) after bits h = absurd h
    back (Text chars) after bits h = absurd h

    there : (bits : List Bool) (r : Fault) → RefusesSifted SpellsInteger (Inward RefusesInteger) (IsUnmet (λ v. (least ≤ℤ v) → (v ≤ℤ most) → ⊥) OutOfRange) bits r → RefusesValue (Signed least most) entries name bits r.0 r.1
    there bits r (inl h) = inl h
    there bits r (inr h) = inr ((h.0, h.2.0, h.1), h.2.1, h.2.2)

    again : (bits : List Bool) (r : Fault) → RefusesValue (Signed least most) entries name bits r.0 r.1 → RefusesSifted SpellsInteger (Inward RefusesInteger) (IsUnmet (λ v. (least ≤ℤ v) → (v ≤ℤ most) → ⊥) OutOfRange) bits r
    again bits r (inl h) = inl h
    again bits r (inr h) = inr (h.0.0, h.0.2, (h.0.1, h.1, h.2))

-- ---- Binary

pub binary : (most : ℕ) (entries : Entries) (name : ℕ) → IsValueExact (Binary most) entries name
binary most entries name =
    let Holds : ℕ → Type 0 = λ n. n ≤ most in
    let Fails : ℕ → Type 0 = λ n. most < n in
    let length_of : ℕ → ℕ = λ n. n in
    let values = kept (λ (bytes : List ℕ). Bytes bytes) entries in
    same (SpellsChained (SpellsSifted SpellsUnsigned (IsMet Holds length_of)) (λ n. SpellsSifted (SpellsNBytes n) (Given values))) _
    (RefusesChained (SpellsSifted SpellsUnsigned (IsMet Holds length_of)) (RefusesSifted SpellsUnsigned (AtStart RefusesUnsigned) (IsUnmet Fails TooLong)) (λ n. AtStart (RefusesBits (8 * n)))) _
    (chained (SpellsSifted SpellsUnsigned (IsMet Holds length_of)) (RefusesSifted SpellsUnsigned (AtStart RefusesUnsigned) (IsUnmet Fails TooLong))
    (λ n. SpellsSifted (SpellsNBytes n) (Given values)) (λ n. AtStart (RefusesBits (8 * n)))
    (sifted SpellsUnsigned (AtStart RefusesUnsigned) (IsMet Holds length_of) (IsUnmet Fails TooLong) (item _ RefusesUnsigned (exact _ _ _ unsigned_read))
    (by_condition Holds Fails length_of TooLong decide (λ v less more. omega (arith, less, more))))
    (λ n front counted. given (SpellsNBytes n) (AtStart (RefusesBits (8 * n))) values (item _ (RefusesBits (8 * n)) (exact _ _ _ (binaries_read n)))))
    forth
    (λ v bits h. back v.0 v.1 bits h)
    there
    again
  where
    decide : (n : ℕ) → (n ≤ most) ⊎ (most < n)
    decide n = elim (cases_lt most n) [ inl more ↦ inr more | inr less ↦ inl less ]

    forth : (v : Value × Entries) (bits : List Bool) → SpellsChained (SpellsSifted SpellsUnsigned (IsMet (λ n. n ≤ most) (λ n. n))) (λ n. SpellsSifted (SpellsNBytes n) (Given (kept (λ (bytes : List ℕ). Bytes bytes) entries))) v bits → SpellsValue (Binary most) entries name v.0 bits v.1
    forth v bits h =
        let counted = h.3 in
        let bytes = h.4.0 in
        let n_is : counted.0 ≡ length bytes = sym counted.2.1 ∙ sym h.4.1.0 in
        subst (λ (w : Value × Entries). SpellsValue (Binary most) entries name w.0 bits w.1) (sym h.4.2)
        (subst (λ (n : ℕ). n ≤ most) n_is counted.2.0, (h.1, h.2, subst (λ (n : ℕ). SpellsUnsigned n h.1) n_is counted.1, h.4.1.1, h.5), refl)

    back : (value : Value) (after : Entries) (bits : List Bool) → SpellsValue (Binary most) entries name value bits after →
        SpellsChained (SpellsSifted SpellsUnsigned (IsMet (λ n. n ≤ most) (λ n. n))) (λ n. SpellsSifted (SpellsNBytes n) (Given (kept (λ (bytes : List ℕ). Bytes bytes) entries))) (value, after) bits
    back (Truth t) after bits h = absurd h
    back (Ordinal n) after bits h = absurd h
    back (Number n) after bits h = absurd h
    back (Bytes bytes) after bits h =
        let parts = h.1 in
        (length bytes, parts.0, parts.1, (length bytes, parts.2, (h.0, refl)), (bytes, (refl, parts.3), ap (λ (es : Entries). (Bytes bytes, es)) h.2), parts.4)
    back (Text chars) after bits h = absurd h

    there : (bits : List Bool) (r : Fault) →
        RefusesChained (SpellsSifted SpellsUnsigned (IsMet (λ n. n ≤ most) (λ n. n))) (RefusesSifted SpellsUnsigned (AtStart RefusesUnsigned) (IsUnmet (λ n. most < n) TooLong)) (λ n. AtStart (RefusesBits (8 * n))) bits r →
        RefusesValue (Binary most) entries name bits r.0 r.1
    there bits r (inl (inl h)) = inl (inl h.0, h.1)
    there bits r (inl (inr h)) = inl (inr ((h.0, h.2.0, h.1), h.2.1), h.2.2)
    there bits r (inr h) =
        let counted = h.4 in
        inr (
          h.0,
          h.1,
          h.2,
          h.3,
          subst (λ (n : ℕ). SpellsUnsigned n h.1) (sym counted.2.1) counted.1,
          h.5,
          (subst (λ (n : ℕ). n ≤ most) (sym counted.2.1) counted.2.0, h.6.0, h.6.1),
          h.7,
        )

    split : (bits : List Bool) (r : Fault) → r.1 ≡ 0 → RefusesItem RefusesUnsigned bits r.0 ⊎ (Exceeds most bits × (r.0 ≡ TooLong)) → RefusesSifted SpellsUnsigned (AtStart RefusesUnsigned) (IsUnmet (λ n. most < n) TooLong) bits r
    split bits r at (inl h) = inl (h, at)
    split bits r at (inr h) = inr (h.0.0, h.0.2, (h.0.1, h.1, at))

    again : (bits : List Bool) (r : Fault) → RefusesValue (Binary most) entries name bits r.0 r.1 →
        RefusesChained (SpellsSifted SpellsUnsigned (IsMet (λ n. n ≤ most) (λ n. n))) (RefusesSifted SpellsUnsigned (AtStart RefusesUnsigned) (IsUnmet (λ n. most < n) TooLong)) (λ n. AtStart (RefusesBits (8 * n))) bits r
    again bits r (inl h) = inl (split bits r h.1 h.0)
    again bits r (inr h) = inr (h.0, h.1, h.2, h.3, (h.0, h.4, (h.6.0, refl)), h.5, (h.6.1, h.6.2), h.7)
