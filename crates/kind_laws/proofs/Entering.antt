-- A value of its datatype is written, where its text is one of those that a document may enter.
use Rattle.std.proofs.Common.{◌≡◌, ◌≢◌, ℕ, zero, suc, pos, ◌+◌, ◌<◌, ◌≤◌, ◌⊎◌, Bool, List, [], ◌∷◌, ◌++◌, length, Some, refl, sym, ap, subst, arith, slice_get, inl, inr}
use Rattle.std.proofs.lemmas.Bool.Decides.{eqb_tells}
use Rattle.std.specs.List.{AllByRecursion}
use Rattle.exi_spec.specs.Bits.{number_bits, bits_of}
use Rattle.exi_spec.specs.Items.{shortest_unsigned, shortest_integer, shortest_chars}
use Rattle.exi_schema.specs.declared.tables.Datatype.{Datatype}
use Rattle.exi_schema.specs.declared.tables.Datatype.TheVariants.{Bool as BoolType, Named, Bounded, Unsigned, Signed, Binary, Text as TextType}
use Rattle.exi_strings.specs.Table.{global_of, local_of}
use Rattle.exi_strings.specs.Texts.{IsFirstAt, IsAbsent, WritesHit, WritesText, entered}
use Rattle.exi_documents.specs.Trees.{Value, Truth, Ordinal, Number, Bytes, Text}
use Rattle.exi_documents.specs.Values.{Entries, most_entries, IsValue, SpellsCode, WritesValue}
use Rattle.document_laws.proofs.IndexWidths.{index_width}
use Rattle.kind_laws.specs.Texts.{text_in, IsAmong}
use Rattle.kind_laws.proofs.Lists.{none_of, one_of}

-- ---- a text in a partition

same_or_not : (a b : List ℕ) → (a ≡ b) ⊎ (a ≢ b)
same_or_not [] [] = inl refl
same_or_not [] (d ∷ ds) = inr (λ h. cc)
same_or_not (c ∷ cs) [] = inr (λ h. cc)
same_or_not (c ∷ cs) (d ∷ ds) =
    elim (eqb_tells c d) [
      | inl same ↦
          elim (same_or_not cs ds) [
            | inl more ↦ inl (let e : c ≡ d = same.1 in cc)
            | inr other ↦ inr (λ h. other cc)
          ]
      | inr other ↦ inr (λ h. other.1 cc)
    ]

absent_more : (x t : List ℕ) (partition : List (List ℕ)) → x ≢ t → IsAbsent partition t → IsAbsent (x ∷ partition) t
absent_more x t partition other absent zero h = other (one_of (Some x) x t refl h)
absent_more x t partition other absent (suc k) h = absent k h

first_more : (x t : List ℕ) (partition : List (List ℕ)) (i : ℕ) → x ≢ t → ((k : ℕ) → k < i → slice_get partition k ≢ Some t) → (k : ℕ) → k < suc i → slice_get (x ∷ partition) k ≢ Some t
first_more x t partition i other before zero less h = other (one_of (Some x) x t refl h)
first_more x t partition i other before (suc k) less h = before k (omega (arith, less)) h

pub first_or_absent : (partition : List (List ℕ)) (t : List ℕ) → ((i : ℕ) × IsFirstAt partition t i) ⊎ IsAbsent partition t
first_or_absent [] t = inr (λ k h. none_of t h)
first_or_absent (x ∷ partition) t =
    elim (same_or_not x t) [
      | inl same ↦ inl (0, record { found = ap (λ (s : List ℕ). Some s) same; first = λ k less h. absurd (omega (arith, less)) })
      | inr other ↦
          elim (first_or_absent partition t) [
            | inl there ↦ inl (suc there.0, record { found = there.1.found; first = first_more x t partition there.0 other there.1.first })
            | inr absent ↦ inr (absent_more x t partition other absent)
          ]
    ]

-- ---- different texts among some are no more than those

abbrev pub AreDifferent : List (List ℕ) → Type 0
AreDifferent [] = Unit {0}
AreDifferent (text ∷ texts) = IsAbsent texts text × AreDifferent texts

left_out : ℕ → List (List ℕ) → List (List ℕ)
left_out k [] = []
left_out zero (x ∷ xs) = xs
left_out (suc k) (x ∷ xs) = x ∷ left_out k xs

left_out_length : (k : ℕ) (xs : List (List ℕ)) (x : List ℕ) → slice_get xs k ≡ Some x → length xs ≡ suc (length (left_out k xs))
unfolding left_out
left_out_length k [] x h = absurd (none_of x h)
left_out_length zero (y ∷ xs) x h = refl
left_out_length (suc k) (y ∷ xs) x h = ap suc (left_out_length k xs x h)

still_among : (xs : List (List ℕ)) (k : ℕ) (x y : List ℕ) (j : ℕ) → slice_get xs k ≡ Some x → slice_get xs j ≡ Some y → x ≢ y → IsAmong (left_out k xs) y
unfolding left_out
still_among [] k x y j p q other = absurd (none_of x p)
still_among (z ∷ xs) zero x y zero p q other = absurd (other (one_of (Some z) x y p q))
still_among (z ∷ xs) zero x y (suc j) p q other = (j, q)
still_among (z ∷ xs) (suc k) x y zero p q other = (0, q)
still_among (z ∷ xs) (suc k) x y (suc j) p q other = let there = still_among xs k x y j p q other in (suc there.0, there.1)

all_still : (ys xs : List (List ℕ)) (k : ℕ) (x : List ℕ) → slice_get ys k ≡ Some x → IsAbsent xs x → AllByRecursion (IsAmong ys) xs → AllByRecursion (IsAmong (left_out k ys)) xs
all_still ys [] k x p absent all = tt
all_still ys (y ∷ xs) k x p absent all = (
  still_among ys k x y all.0.0 p all.0.1 (λ same. absent 0 (ap (λ (t : List ℕ). Some t) (sym same))),
  all_still ys xs k x p (λ j. absent (suc j)) all.1,
)

no_more : (xs ys : List (List ℕ)) → AreDifferent xs → AllByRecursion (IsAmong ys) xs → length xs ≤ length ys
no_more [] ys different all = omega arith
no_more (x ∷ xs) ys different all =
    let rest = no_more xs (left_out all.0.0 ys) different.1 (all_still ys xs all.0.0 x all.0.1 different.0 all.1) in
    omega (arith, rest, left_out_length all.0.0 ys x all.0.1)

-- ---- one more

absent_behind : (xs : List (List ℕ)) (x t : List ℕ) → IsAbsent xs x → x ≢ t → IsAbsent (xs ++ t ∷ []) x
absent_behind [] x t absent other zero h = other (sym (one_of (Some t) t x refl h))
absent_behind [] x t absent other (suc k) h = none_of x h
absent_behind (y ∷ xs) x t absent other zero h = absent 0 h
absent_behind (y ∷ xs) x t absent other (suc k) h = absent_behind xs x t (λ j. absent (suc j)) other k h

different_more : (xs : List (List ℕ)) (t : List ℕ) → AreDifferent xs → IsAbsent xs t → AreDifferent (xs ++ t ∷ [])
different_more [] t all absent = ((λ k h. none_of t h), tt)
different_more (x ∷ xs) t all absent = (
  absent_behind xs x t all.0 (λ same. absent 0 (ap (λ (s : List ℕ). Some s) same)),
  different_more xs t all.1 (λ k. absent (suc k)),
)

among_more : (different xs : List (List ℕ)) (t : List ℕ) → AllByRecursion (IsAmong different) xs → IsAmong different t → AllByRecursion (IsAmong different) (xs ++ t ∷ [])
among_more different [] t all one = (one, tt)
among_more different (x ∷ xs) t all one = (all.0, among_more different xs t all.1 one)

pub global_more : (entries : Entries) (name : ℕ) (t : List ℕ) → global_of (entries ++ (name, t) ∷ []) ≡ global_of entries ++ t ∷ []
global_more [] name t = refl
global_more (entry ∷ entries) name t = ap (λ (l : List (List ℕ)). entry.1 ∷ l) (global_more entries name t)

pub global_length : (entries : Entries) → length (global_of entries) ≡ length entries
global_length [] = refl
global_length (entry ∷ entries) = ap suc (global_length entries)

-- ---- a table

-- what is entered are different texts, each of them one that may be
pub record IsKnown (different : List (List ℕ)) (entries : Entries) : Type 0 where
  pub once : AreDifferent (global_of entries)
  pub among : AllByRecursion (IsAmong different) (global_of entries)

pub known_none : (different : List (List ℕ)) → IsKnown different []
known_none different = record { once = tt; among = tt }

known_few : (different : List (List ℕ)) (entries : Entries) → length different ≤ most_entries → IsKnown different entries → length entries ≤ most_entries
known_few different entries few known = omega (arith, few, no_more (global_of entries) different known.once known.among, global_length entries)

known_more : (different : List (List ℕ)) (entries : Entries) (name : ℕ) (t : List ℕ) → IsKnown different entries → IsAbsent (global_of entries) t → IsAmong different t → IsKnown different (entries ++ (name, t) ∷ [])
known_more different entries name t known absent one =
    record {
      once = subst (λ (l : List (List ℕ)). AreDifferent l) (sym (global_more entries name t)) (different_more (global_of entries) t known.once absent);
      among = subst (λ (l : List (List ℕ)). AllByRecursion (IsAmong different) l) (sym (global_more entries name t)) (among_more different (global_of entries) t known.among one);
    }

-- a text that isn't empty may be entered
abbrev pub MayEnter : List (List ℕ) → Value → Type 0
MayEnter different value = AllByRecursion (IsAmong different) (text_in value)

known_entered : (different : List (List ℕ)) (entries : Entries) (name : ℕ) (t : List ℕ) → IsKnown different entries → IsAbsent (global_of entries) t → MayEnter different (Text t) → IsKnown different (entered entries name t)
known_entered different entries name [] known absent may = known
known_entered different entries name (c ∷ cs) known absent may = known_more different entries name (c ∷ cs) known absent may.0

-- ---- values

abbrev pub Written : List (List ℕ) → Datatype → Entries → ℕ → Value → Type 0
Written different datatype entries name value = (bits : List Bool) × (after : Entries) × WritesValue datatype entries name value bits after × IsKnown different after

pub code_written : (count code : ℕ) → code < count → (bits : List Bool) × SpellsCode count code bits
code_written count code below =
    let wide = index_width count in
    (number_bits wide.0 code, record { below = below; width = wide.0; is_width = wide.1; spelled = refl })

hit_written : (n : ℕ) (partition : List (List ℕ)) (t : List ℕ) (i : ℕ) → IsFirstAt partition t i → (bits : List Bool) × WritesHit n partition t bits
hit_written n partition t i first =
    let wide = index_width (length partition) in
    (shortest_unsigned n ++ number_bits wide.0 i, (number_bits wide.0 i, (i, wide.0, first, wide.1, refl), refl))

text_written : (different : List (List ℕ)) (entries : Entries) (name : ℕ) (t : List ℕ) → length different ≤ most_entries → IsKnown different entries → MayEnter different (Text t) →
    (bits : List Bool) × (after : Entries) × WritesText entries name t bits after × (length after ≤ most_entries) × IsKnown different after
text_written different entries name t few known may =
    elim (first_or_absent (local_of name entries) t) [
      | inl first ↦ let hit = hit_written 0 (local_of name entries) t first.0 first.1 in (hit.0, entries, inl (hit.1, refl), known_few different entries few known, known)
      | inr no_local ↦
          elim (first_or_absent (global_of entries) t) [
            | inl first ↦
                let hit = hit_written 1 (global_of entries) t first.0 first.1 in
                (hit.0, entries, inr (inl (no_local, hit.1, refl)), known_few different entries few known, known)
            | inr no_global ↦
                let after = known_entered different entries name t known no_global may in
                (shortest_unsigned (length t + 2) ++ shortest_chars t, entered entries name t, inr (inr (no_local, no_global, refl, refl)), known_few different (entered entries name t) few after, after)
          ]
    ]

pub value_written : (different : List (List ℕ)) (datatype : Datatype) (entries : Entries) (name : ℕ) (value : Value) → length different ≤ most_entries → IsValue datatype value → MayEnter different value → IsKnown different entries → Written different datatype entries name value
value_written different BoolType entries name (Truth truth) few is may known = (truth ∷ [], entries, (refl, refl), known)
value_written different (Named count) entries name (Ordinal ordinal) few is may known = let code = code_written count ordinal is in (code.0, entries, (code.1, refl), known)
value_written different (Bounded least count) entries name (Number v) few is may known =
    let code = code_written count is.0 is.1 in (code.0, entries, ((is.0, is.2, code.1), refl), known)
value_written different (Unsigned most) entries name (Number (pos n)) few is may known = (shortest_unsigned n, entries, (is, refl, refl), known)
value_written different (Signed least most) entries name (Number v) few is may known = (shortest_integer v, entries, (is.0, is.1, refl, refl), known)
value_written different (Binary most) entries name (Bytes bytes) few is may known = (shortest_unsigned (length bytes) ++ bits_of bytes, entries, (is, refl, refl), known)
value_written different (TextType most) entries name (Text chars) few is may known =
    let text = text_written different entries name chars few known may in (text.0, text.1, (is, text.2, text.3), text.4)
value_written different _ entries name _ few is may known = absurd is
