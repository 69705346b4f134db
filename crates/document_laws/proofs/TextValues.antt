-- The bits of a text begin with one spelling of one text, or have one refusal; and so do those of any value.
use Rattle.std.proofs.Common.{◌≡◌, ℕ, zero, suc, ◌+◌, ◌<◌, ◌≤◌, ◌⊎◌, Bool, List, [], ◌∷◌, ◌++◌, length, Option, Some, None, slice_get, refl, sym, ap, subst, ◌∙◌, arith, inl, inr, length-append}
use Rattle.std.proofs.lemmas.Bool.{cases_lt}
use Rattle.exi_spec.specs.Items.{SpellsNumber, SpellsUnsigned, SpellsChars, Begins, RefusesBits, RefusesUnsigned, RefusesChars}
use Rattle.exi_spec.specs.Laws.{IsExact, SpellsNChars}
use Rattle.exi_spec.proofs.Readers.{exact, numbers_read, unsigned_read, strings_read}
use Rattle.exi_schema.specs.declared.tables.Datatype.{Datatype}
use Rattle.exi_schema.specs.declared.tables.Datatype.TheVariants.{Bool as BoolType, Named, Bounded, Unsigned, Signed, Binary, Text as TextType}
use Rattle.exi_documents.specs.Table.{global_of, local_of}
use Rattle.exi_documents.specs.Texts.{SpellsIndex, Announces, entered, SpellsHit}
use Rattle.exi_documents.specs.Trees.{Value, Truth, Ordinal, Number, Bytes, Text}
use Rattle.exi_documents.specs.declared.refusal.RefusalCause.{RefusalCause}
use Rattle.exi_documents.specs.declared.refusal.RefusalCause.TheVariants.{NoSuchIndex, TooLong, TableFull}
use Rattle.exi_documents.specs.Values.{Entries, most_entries, SpellsValue, RefusesItem, RefusesIndex, Overfills, RefusesAnnounced, RefusesLength, RefusesValue}
use Rattle.document_laws.specs.Laws.{Fault, IsValueExact}
use Rattle.document_laws.proofs.Exact.{Spelling, Refusing, AtStart, Inward, same_fault, item, item_inward, Sifts, SpellsSifted, RefusesSifted, sifted, Given, given, SpellsChained, RefusesChained, chained, same}
use Rattle.document_laws.proofs.IndexWidths.{same_index_width, index_width}
use Rattle.document_laws.proofs.Values.{kept, boolean, named, bounded, unsigned, signed, binary}

-- ---- an index

abbrev SpellsWithin : ℕ → List (List ℕ) → Spelling (List ℕ)
SpellsWithin most partition text bits = SpellsIndex partition text bits × (length text ≤ most)

abbrev IsThere : ℕ → List (List ℕ) → ℕ → List ℕ → Type 0
IsThere most partition index text = (slice_get partition index ≡ Some text) × (length text ≤ most)

abbrev IsNotThere : ℕ → List (List ℕ) → ℕ → Fault → Type 0
IsNotThere most partition index fault =
    (((slice_get partition index ≡ None) × (fault.0 ≡ NoSuchIndex))
    ⊎ ((text : List ℕ) × (slice_get partition index ≡ Some text) × (most < length text) × (fault.0 ≡ TooLong)))
    × (fault.1 ≡ 0)

same_text : (o : Option (List ℕ)) (t u : List ℕ) → o ≡ Some t → o ≡ Some u → t ≡ u
same_text o t u p q = let e : Some t ≡ Some u = sym p ∙ q in cc

not_both : (o : Option (List ℕ)) (t : List ℕ) → o ≡ None → o ≡ Some t → ⊥
not_both o t p q = let e : None ≡ Some t = sym p ∙ q in cc

there_or_not : (most : ℕ) (partition : List (List ℕ)) (index : ℕ) (o : Option (List ℕ)) → slice_get partition index ≡ o → ((text : List ℕ) × IsThere most partition index text) ⊎ ((r : Fault) × IsNotThere most partition index r)
there_or_not most partition index None e = inr ((NoSuchIndex, 0), (inl (e, refl), refl))
there_or_not most partition index (Some text) e =
    elim (cases_lt most (length text)) [
      | inl long ↦ inr ((TooLong, 0), (inr (text, e, long, refl), refl))
      | inr within ↦ inl (text, (e, within))
    ]

one_bad_index : (most : ℕ) (partition : List (List ℕ)) (index : ℕ) (r s : Fault) → IsNotThere most partition index r → IsNotThere most partition index s → r ≡ s
one_bad_index most partition index r s p q = same_fault r s (causes r.0 s.0 p.0 q.0) (p.1 ∙ sym q.1)
  where
    causes : (a b : RefusalCause) →
        ((slice_get partition index ≡ None) × (a ≡ NoSuchIndex)) ⊎ ((text : List ℕ) × (slice_get partition index ≡ Some text) × (most < length text) × (a ≡ TooLong)) →
        ((slice_get partition index ≡ None) × (b ≡ NoSuchIndex)) ⊎ ((text : List ℕ) × (slice_get partition index ≡ Some text) × (most < length text) × (b ≡ TooLong)) → a ≡ b
    causes a b (inl x) (inl y) = x.1 ∙ sym y.1
    causes a b (inl x) (inr y) = absurd (not_both (slice_get partition index) y.0 x.0 y.1)
    causes a b (inr x) (inl y) = absurd (not_both (slice_get partition index) x.0 y.0 x.1)
    causes a b (inr x) (inr y) = x.3 ∙ sym y.3

index_apart : (most : ℕ) (partition : List (List ℕ)) (index : ℕ) (text : List ℕ) (r : Fault) → IsThere most partition index text → IsNotThere most partition index r → ⊥
index_apart most partition index text r (found, within) (inl h, at) = not_both (slice_get partition index) text h.0 found
index_apart most partition index text r (found, within) (inr h, at) =
    let e : text ≡ h.0 = same_text (slice_get partition index) text h.0 found h.1 in
    let less : length h.0 ≤ most = subst (λ (t : List ℕ). length t ≤ most) e within in
    omega (arith, less, h.2)

index_sifts : (most : ℕ) (partition : List (List ℕ)) → Sifts (IsThere most partition) (IsNotThere most partition)
index_sifts most partition =
    record {
      choice = λ index. there_or_not most partition index (slice_get partition index) refl;
      one_good = λ index t u p q. same_text (slice_get partition index) t u p.0 q.0;
      one_bad = one_bad_index most partition;
      apart = index_apart most partition;
    }

index_exact : (most : ℕ) (partition : List (List ℕ)) → IsExact (SpellsWithin most partition) (λ bits (r : Fault). RefusesIndex most partition bits r.0 × (r.1 ≡ 0))
index_exact most partition =
    let width = (index_width (length partition)).0 in
    let is_width = (index_width (length partition)).1 in
    same (SpellsSifted (SpellsNumber width) (IsThere most partition)) (SpellsWithin most partition)
    (RefusesSifted (SpellsNumber width) (AtStart (RefusesBits width)) (IsNotThere most partition)) _
    (sifted (SpellsNumber width) (AtStart (RefusesBits width)) (IsThere most partition) (IsNotThere most partition) (item _ (RefusesBits width) (exact _ _ _ (numbers_read width))) (index_sifts most partition))
    (λ v bits h. (record { index = h.0; width = width; is_width = is_width; found = h.2.0; spelled = h.1 }, h.2.1))
    (λ v bits h.
    let x = h.0 in
    let e : x.width ≡ width = same_index_width (length partition) x.width width x.is_width is_width in
    (x.index, subst (λ (w : ℕ). SpellsNumber w x.index bits) e x.spelled, (x.found, h.1)))
    there
    back
  where
    there : (bits : List Bool) (r : Fault) → RefusesSifted (SpellsNumber (index_width (length partition)).0) (AtStart (RefusesBits (index_width (length partition)).0)) (IsNotThere most partition) bits r → RefusesIndex most partition bits r.0 × (r.1 ≡ 0)
    there bits r (inl h) = (record { width = (index_width (length partition)).0; is_width = (index_width (length partition)).1; refused = inl h.0 }, h.1)
    there bits r (inr h) = (record { width = (index_width (length partition)).0; is_width = (index_width (length partition)).1; refused = inr (h.0, h.1, h.2.0) }, h.2.1)

    split : (w : ℕ) (bits : List Bool) (r : Fault) → w ≡ (index_width (length partition)).0 → r.1 ≡ 0 →
        RefusesItem (RefusesBits w) bits r.0
        ⊎ ((index : ℕ) × Begins (SpellsNumber w index) bits
        × (((slice_get partition index ≡ None) × (r.0 ≡ NoSuchIndex)) ⊎ ((text : List ℕ) × (slice_get partition index ≡ Some text) × (most < length text) × (r.0 ≡ TooLong)))) →
        RefusesSifted (SpellsNumber (index_width (length partition)).0) (AtStart (RefusesBits (index_width (length partition)).0)) (IsNotThere most partition) bits r
    split w bits r e at (inl h) = inl (subst (λ (k : ℕ). RefusesItem (RefusesBits k) bits r.0) e h, at)
    split w bits r e at (inr h) = inr (h.0, subst (λ (k : ℕ). Begins (SpellsNumber k h.0) bits) e h.1, (h.2, at))

    back : (bits : List Bool) (r : Fault) → RefusesIndex most partition bits r.0 × (r.1 ≡ 0) → RefusesSifted (SpellsNumber (index_width (length partition)).0) (AtStart (RefusesBits (index_width (length partition)).0)) (IsNotThere most partition) bits r
    back bits r h =
        split h.0.width bits r (same_index_width (length partition) h.0.width (index_width (length partition)).0 h.0.is_width (index_width (length partition)).1) h.1 h.0.refused

-- ---- the number in front of a text

abbrev Opens : ℕ → Entries → ℕ → Type 0
Opens most entries zero = Unit {0}
Opens most entries (suc zero) = Unit {0}
Opens most entries (suc (suc n)) = (n ≤ most) × (Overfills entries n → ⊥)

abbrev IsOpening : ℕ → Entries → ℕ → ℕ → Type 0
IsOpening most entries n m = Opens most entries n × (m ≡ n)

abbrev Shuts : ℕ → Entries → ℕ → Fault → Type 0
Shuts most entries zero fault = ⊥
Shuts most entries (suc zero) fault = ⊥
Shuts most entries (suc (suc n)) fault =
    (((most < n) × (fault.0 ≡ TooLong)) ⊎ ((n ≤ most) × Overfills entries n × (fault.0 ≡ TableFull))) × (fault.1 ≡ 0)

overfills_or_not : (entries : Entries) (n : ℕ) → Overfills entries n ⊎ (Overfills entries n → ⊥)
overfills_or_not entries n =
    elim (cases_lt 0 n) [
      | inl some ↦ elim (cases_lt (length entries) most_entries) [
        | inl room ↦ inr (λ h. omega (arith, room, h.1))
        | inr full ↦ inl (some, full)
      ]
      | inr empty ↦ inr (λ h. omega (arith, empty, h.0))
    ]

opens_or_shuts : (most : ℕ) (entries : Entries) (n : ℕ) → ((m : ℕ) × IsOpening most entries n m) ⊎ ((r : Fault) × Shuts most entries n r)
opens_or_shuts most entries zero = inl (0, (tt, refl))
opens_or_shuts most entries (suc zero) = inl (1, (tt, refl))
opens_or_shuts most entries (suc (suc n)) =
    elim (cases_lt most n) [
      | inl long ↦ inr ((TooLong, 0), (inl (long, refl), refl))
      | inr within ↦ elim (overfills_or_not entries n) [
        | inl full ↦ inr ((TableFull, 0), (inr (within, full, refl), refl))
        | inr room ↦ inl (suc (suc n), ((within, room), refl))
      ]
    ]

one_shut : (most : ℕ) (entries : Entries) (n : ℕ) (r s : Fault) → Shuts most entries n r → Shuts most entries n s → r ≡ s
one_shut most entries zero r s p q = absurd p
one_shut most entries (suc zero) r s p q = absurd p
one_shut most entries (suc (suc n)) r s (inl x, at) (inl y, too) = same_fault r s (x.1 ∙ sym y.1) (at ∙ sym too)
one_shut most entries (suc (suc n)) r s (inl x, at) (inr y, too) = absurd (omega (arith, x.0, y.0))
one_shut most entries (suc (suc n)) r s (inr x, at) (inl y, too) = absurd (omega (arith, y.0, x.0))
one_shut most entries (suc (suc n)) r s (inr x, at) (inr y, too) = same_fault r s (x.2 ∙ sym y.2) (at ∙ sym too)

opening_apart : (most : ℕ) (entries : Entries) (n m : ℕ) (r : Fault) → IsOpening most entries n m → Shuts most entries n r → ⊥
opening_apart most entries zero m r p q = q
opening_apart most entries (suc zero) m r p q = q
opening_apart most entries (suc (suc n)) m r (open_one, is) (inl x, at) = omega (arith, x.0, open_one.0)
opening_apart most entries (suc (suc n)) m r (open_one, is) (inr x, at) = open_one.1 x.1

opening_sifts : (most : ℕ) (entries : Entries) → Sifts (IsOpening most entries) (Shuts most entries)
opening_sifts most entries =
    record {
      choice = opens_or_shuts most entries;
      one_good = λ n m k p q. p.1 ∙ sym q.1;
      one_bad = one_shut most entries;
      apart = opening_apart most entries;
    }

-- ---- what the number announces

abbrev enters : Entries → ℕ → List ℕ → Value × Entries
enters entries name chars = (Text chars, entered entries name chars)

module _ (most : ℕ) (entries : Entries) (name : ℕ) where
  abbrev Announced : ℕ → Spelling (Value × Entries)
  Announced zero = SpellsSifted (SpellsWithin most (local_of name entries)) (Given (kept (λ (chars : List ℕ). Text chars) entries))
  Announced (suc zero) = SpellsSifted (SpellsWithin most (global_of entries)) (Given (kept (λ (chars : List ℕ). Text chars) entries))
  Announced (suc (suc n)) = SpellsSifted (SpellsNChars n) (Given (enters entries name))

  abbrev RefusesNext : ℕ → Refusing
  RefusesNext zero bits fault = RefusesIndex most (local_of name entries) bits fault.0 × (fault.1 ≡ 0)
  RefusesNext (suc zero) bits fault = RefusesIndex most (global_of entries) bits fault.0 × (fault.1 ≡ 0)
  RefusesNext (suc (suc n)) bits fault = Inward (RefusesChars n) bits fault

  announced_exact : (n : ℕ) → IsExact (Announced n) (RefusesNext n)
  announced_exact zero = given (SpellsWithin most (local_of name entries)) _ (kept (λ (chars : List ℕ). Text chars) entries) (index_exact most (local_of name entries))
  announced_exact (suc zero) = given (SpellsWithin most (global_of entries)) _ (kept (λ (chars : List ℕ). Text chars) entries) (index_exact most (global_of entries))
  announced_exact (suc (suc n)) = given (SpellsNChars n) (Inward (RefusesChars n)) (enters entries name) (item_inward _ (RefusesChars n) (exact _ _ _ (strings_read n)))

  abbrev Opening : Spelling ℕ
  Opening = SpellsSifted SpellsUnsigned (IsOpening most entries)

  abbrev RefusesOpening : Refusing
  RefusesOpening = RefusesSifted SpellsUnsigned (AtStart RefusesUnsigned) (Shuts most entries)

  spelled_exact : IsExact (SpellsChained Opening Announced) (RefusesChained Opening RefusesOpening RefusesNext)
  spelled_exact =
      chained Opening RefusesOpening Announced RefusesNext
      (sifted SpellsUnsigned (AtStart RefusesUnsigned) (IsOpening most entries) (Shuts most entries) (item _ RefusesUnsigned (exact _ _ _ unsigned_read)) (opening_sifts most entries))
      (λ n front counted. announced_exact n)

  -- a text that is entered has room
  enters_within : (chars : List ℕ) → length entries ≤ most_entries → (Overfills entries (length chars) → ⊥) → length (entered entries name chars) ≤ most_entries
  enters_within [] few room = few
  enters_within (char ∷ chars) few room =
      elim (cases_lt (length entries) most_entries) [
        | inl less ↦ omega (arith, less, length-append entries ((name, char ∷ chars) ∷ []))
        | inr full ↦ absurd (room (omega arith, full))
      ]

  room_for : (chars : List ℕ) → length (entered entries name chars) ≤ most_entries → Overfills entries (length chars) → ⊥
  room_for [] within full = omega (arith, full.0)
  room_for (char ∷ chars) within full = omega (arith, within, full.1, length-append entries ((name, char ∷ chars) ∷ []))

  forth_at : (n : ℕ) (v : Value × Entries) (bits front rest : List Bool) → length entries ≤ most_entries → Opens most entries n → SpellsUnsigned n front → Announced n v rest → bits ≡ front ++ rest → SpellsValue (TextType most) entries name v.0 bits v.1
  forth_at zero v bits front rest few opens s t e =
      subst (λ (w : Value × Entries). SpellsValue (TextType most) entries name w.0 bits w.1) (sym t.2)
      (record { within = t.1.1; spelled = inl (inl (front, rest, s, t.1.0, e), refl) }, few)
  forth_at (suc zero) v bits front rest few opens s t e =
      subst (λ (w : Value × Entries). SpellsValue (TextType most) entries name w.0 bits w.1) (sym t.2)
      (record { within = t.1.1; spelled = inl (inr (front, rest, s, t.1.0, e), refl) }, few)
  forth_at (suc (suc n)) v bits front rest few opens s t e =
      let chars = t.0 in
      let long : length chars ≡ n = t.1.0 in
      let whole : suc (suc n) ≡ length chars + 2 = omega (arith, long) in
      subst (λ (w : Value × Entries). SpellsValue (TextType most) entries name w.0 bits w.1) (sym t.2) (
        record {
          within = subst (λ (k : ℕ). k ≤ most) (sym long) opens.0;
          spelled = inr ((front, rest, subst (λ (k : ℕ). SpellsUnsigned k front) whole s, t.1.1, e), refl);
        },
        enters_within chars few (λ full. opens.1 (subst (λ (k : ℕ). Overfills entries k) long full)),
      )

  back_by : (chars : List ℕ) (bits : List Bool) (after : Entries) → length chars ≤ most → length after ≤ most_entries →
      (SpellsHit entries name chars bits × (after ≡ entries)) ⊎ (Announces (length chars + 2) (SpellsChars chars) bits × (after ≡ entered entries name chars)) →
      SpellsChained Opening Announced (Text chars, after) bits
  back_by chars bits after within few (inl (inl a, is)) = (0, a.0, a.1, (0, a.2, (tt, refl)), (chars, (a.3, within), ap (λ (es : Entries). (Text chars, es)) is), a.4)
  back_by chars bits after within few (inl (inr a, is)) = (1, a.0, a.1, (1, a.2, (tt, refl)), (chars, (a.3, within), ap (λ (es : Entries). (Text chars, es)) is), a.4)
  back_by chars bits after within few (inr (a, is)) =
      let whole : length chars + 2 ≡ suc (suc (length chars)) = omega arith in (
        suc (suc (length chars)),
        a.0,
        a.1,
        (suc (suc (length chars)), subst (λ (k : ℕ). SpellsUnsigned k a.0) whole a.2, ((within, room_for chars (subst (λ (es : Entries). length es ≤ most_entries) is few)), refl)),
        (chars, (refl, a.3), ap (λ (es : Entries). (Text chars, es)) is),
        a.4,
      )

  back : (value : Value) (after : Entries) (bits : List Bool) → SpellsValue (TextType most) entries name value bits after → SpellsChained Opening Announced (value, after) bits
  back (Truth t) after bits h = absurd h
  back (Ordinal n) after bits h = absurd h
  back (Number n) after bits h = absurd h
  back (Bytes bytes) after bits h = absurd h
  back (Text chars) after bits h = back_by chars bits after h.0.within h.1 h.0.spelled

  shut_there : (n : ℕ) (bits : List Bool) (r : Fault) → Begins (SpellsUnsigned n) bits → Shuts most entries n r → RefusesValue (TextType most) entries name bits r.0 r.1
  shut_there zero bits r begins h = absurd h
  shut_there (suc zero) bits r begins h = absurd h
  shut_there (suc (suc n)) bits r begins h =
      let whole : suc (suc n) ≡ n + 2 = omega arith in
      inl (inr (n, subst (λ (k : ℕ). Begins (SpellsUnsigned k) bits) whole begins, h.0), h.1)

  next_there : (n : ℕ) (bits : List Bool) (why : RefusalCause) (behind : ℕ) → Opens most entries n → RefusesNext n bits (why, behind) → RefusesAnnounced most entries name n bits why behind
  next_there zero bits why behind opens h = h
  next_there (suc zero) bits why behind opens h = h
  next_there (suc (suc n)) bits why behind opens h = (opens.0, opens.1, h.0, h.1, h.2)

  there : (bits : List Bool) (r : Fault) → RefusesChained Opening RefusesOpening RefusesNext bits r → RefusesValue (TextType most) entries name bits r.0 r.1
  there bits r (inl (inl h)) = inl (inl h.0, h.1)
  there bits r (inl (inr h)) = shut_there h.0 bits r h.1 h.2
  there bits r (inr h) =
      let counted = h.4 in
      inr (
        h.0,
        h.1,
        h.2,
        h.3,
        subst (λ (n : ℕ). SpellsUnsigned n h.1) (sym counted.2.1) counted.1,
        h.5,
        next_there h.0 h.2 r.0 h.3 (subst (λ (n : ℕ). Opens most entries n) (sym counted.2.1) counted.2.0) h.6,
        h.7,
      )

  split : (bits : List Bool) (r : Fault) → r.1 ≡ 0 → RefusesItem RefusesUnsigned bits r.0 ⊎ RefusesLength most entries bits r.0 → RefusesOpening bits r
  split bits r at (inl h) = inl (h, at)
  split bits r at (inr h) =
      let whole : h.0 + 2 ≡ suc (suc h.0) = omega arith in
      inr (suc (suc h.0), subst (λ (k : ℕ). Begins (SpellsUnsigned k) bits) whole h.1, (h.2, at))

  next_back : (n : ℕ) (bits : List Bool) (why : RefusalCause) (behind : ℕ) → RefusesAnnounced most entries name n bits why behind → Opens most entries n × RefusesNext n bits (why, behind)
  next_back zero bits why behind h = (tt, h)
  next_back (suc zero) bits why behind h = (tt, h)
  next_back (suc (suc n)) bits why behind h = ((h.0, h.1), (h.2, h.3, h.4))

  again : (bits : List Bool) (r : Fault) → RefusesValue (TextType most) entries name bits r.0 r.1 → RefusesChained Opening RefusesOpening RefusesNext bits r
  again bits r (inl h) = inl (split bits r h.1 h.0)
  again bits r (inr h) =
      let announced = next_back h.0 h.2 r.0 h.3 h.6 in
      inr (h.0, h.1, h.2, h.3, (h.0, h.4, (announced.0, refl)), h.5, announced.1, h.7)

  text : length entries ≤ most_entries → IsValueExact (TextType most) entries name
  text few =
      same (SpellsChained Opening Announced) _ (RefusesChained Opening RefusesOpening RefusesNext) _ spelled_exact
      (λ v bits h. forth_at h.0 v bits h.1 h.2 few (subst (λ (n : ℕ). Opens most entries n) (sym h.3.2.1) h.3.2.0) (subst (λ (n : ℕ). SpellsUnsigned n h.1) (sym h.3.2.1) h.3.1) h.4 h.5)
      (λ v bits h. back v.0 v.1 bits h)
      there
      again

-- ---- any value

pub value_exact : (d : Datatype) (entries : Entries) (name : ℕ) → length entries ≤ most_entries → IsValueExact d entries name
value_exact BoolType entries name few = boolean entries name
value_exact (Named count) entries name few = named count entries name
value_exact (Bounded least count) entries name few = bounded least count entries name
value_exact (Unsigned most) entries name few = unsigned most entries name
value_exact (Signed least most) entries name few = signed least most entries name
value_exact (Binary most) entries name few = binary most entries name
value_exact (TextType most) entries name few = text most entries name few
