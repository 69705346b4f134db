-- What a window holds of a sequence is taken from it.
use Rattle.std.proofs.Common.{◌≡◌, ℕ, ◌+◌, ◌^◌, ◌<◌, ◌≤◌, Bool, List, [], ◌∷◌, ◌++◌, length, get_or, refl, sym, ap, subst, ◌∙◌, arith, append_assoc, inl, inr, ◌⊎◌}
use Rattle.std.proofs.lemmas.List.{length-append, append-nil, append_cancel_left, length-drop}
use Rattle.exi_spec.specs.Bits.{number_bits}
use Rattle.exi_spec.specs.Items.{SpellsNumber}
use Rattle.exi_spec.proofs.BitLaws.{length-number_bits}
use Rattle.exi_spec.proofs.Readers.{exact, numbers_read}
use Rattle.exi_bits.specs.Reading.{Cursor, Window, HoldsNext, HoldsOn, HoldsWhole, Passes, Takes, ahead}
use Rattle.exi_schema.specs.declared.places.SequenceChild.{SequenceChild}
use Rattle.exi_schema.specs.declared.tables.Datatype.{Datatype}
use Rattle.document_laws.proofs.TextValues.{value_exact}
use Rattle.exi_writing.specs.Short.{SpellsShort, most_bits}
use Rattle.exi_writing.specs.Trees.{Value}
use Rattle.exi_writing.specs.Values.{SpellsValue}
use Rattle.exi_events.specs.Child.{child_bits, inside_bits}
use Rattle.exi_events.specs.Sequence.{HoldsFront, HoldsThree, SpellsChild}

abbrev pub zero_bit : List Bool
zero_bit = number_bits 1 0

-- behind the bits that were passed stand the others
went_on : (front behind rest passed : List Bool) (old new : Window) → HoldsOn old new → Passes old.cursor new.cursor passed → passed ≡ front → HoldsFront (front ++ behind) rest old → HoldsFront behind rest new
went_on front behind rest passed old new on passes is h =
    let long : length passed ≡ length front = ap length is in
    record {
      within = omega (arith, h.within, length-append front behind, on, passes.moved, long);
      there = append_cancel_left front (ahead new.cursor) (behind ++ rest) (sym (passes.there ∙ ap (λ (l : List Bool). l ++ ahead new.cursor) is) ∙ h.there ∙ append_assoc front behind rest);
    }

-- ---- a code

module _ (n v : ℕ) (range : v < 2 ^ n) where
  number_spelled : SpellsNumber n v (number_bits n v)
  number_spelled = record { range = range; spelled = refl }

  number_once : (code : ℕ) (behind rest : List Bool) (old new : Window) (t : Takes (SpellsNumber n code) old.cursor new.cursor) → HoldsFront (number_bits n v ++ behind) rest old → (t.0 ≡ number_bits n v) × (code ≡ v)
  number_once code behind rest old new t h =
      let same = (exact _ _ _ (numbers_read n)).prefix code v t.0 (number_bits n v) (ahead new.cursor) (behind ++ rest) t.1 number_spelled (sym t.2.there ∙ h.there ∙ append_assoc (number_bits n v) behind rest) in
      (same.0, same.1)

  pub code_held : (behind rest : List Bool) (window : Window) → HoldsFront (number_bits n v ++ behind) rest window → n ≤ window.held
  code_held behind rest window h = omega (arith, h.within, length-append (number_bits n v) behind, length-number_bits n v)

  pub code_is : (code : ℕ) (behind rest : List Bool) (old new : Window) → Takes (SpellsNumber n code) old.cursor new.cursor → HoldsFront (number_bits n v ++ behind) rest old → code ≡ v
  code_is code behind rest old new t h = (number_once code behind rest old new t h).1

  pub code_behind : (code : ℕ) (behind rest : List Bool) (old new : Window) → HoldsOn old new → Takes (SpellsNumber n code) old.cursor new.cursor → HoldsFront (number_bits n v ++ behind) rest old → HoldsFront behind rest new
  code_behind code behind rest old new on t h = went_on (number_bits n v) behind rest t.0 old new on t.2 (number_once code behind rest old new t h).0 h

-- ---- a value

pub value_held : (d : Datatype) (value : Value) (inside behind rest : List Bool) (window : Window) → SpellsShort d value inside → length inside ≤ most_bits → HoldsFront (inside ++ behind) rest window → HoldsWhole (SpellsShort d value) most_bits window
value_held d value inside behind rest window s few h =
    record {
      front = inside;
      rest = behind ++ rest;
      spelled = s;
      few = few;
      within = omega (arith, h.within, length-append inside behind);
      there = h.there ∙ append_assoc inside behind rest;
    }

pub value_behind : (d : Datatype) (value taken : Value) (inside behind rest : List Bool) (old new : Window) → SpellsShort d value inside → HoldsOn old new →
    Takes (λ bits. SpellsValue d [] 0 taken bits []) old.cursor new.cursor → HoldsFront (inside ++ behind) rest old → HoldsFront behind rest new
value_behind d value taken inside behind rest old new s on t h =
    let same = (value_exact d [] 0 (omega arith)).prefix (taken, []) (value, []) t.0 inside (ahead new.cursor) (behind ++ rest) t.1 (s.spelled [] 0) (sym t.2.there ∙ h.there ∙ append_assoc inside behind rest) in
    went_on inside behind rest t.0 old new on t.2 same.0 h

-- ---- a child

-- the bits of one that has started, piece by piece
pub started_opened : (inside behind rest bits : List Bool) (window : Window) → bits ≡ inside_bits inside → HoldsFront (bits ++ behind) rest window → HoldsFront (zero_bit ++ (inside ++ (zero_bit ++ behind))) rest window
started_opened inside behind rest bits window is h =
    let pieces : bits ++ behind ≡ zero_bit ++ (inside ++ (zero_bit ++ behind)) =
    ap (λ (l : List Bool). l ++ behind) is
    ∙ append_assoc zero_bit (inside ++ zero_bit) behind
    ∙ ap (λ (l : List Bool). zero_bit ++ l) (append_assoc inside zero_bit behind) in
    subst (λ (l : List Bool). HoldsFront l rest window) pieces h

-- its bits, piece by piece
pub child_opened : (inside behind rest bits : List Bool) (window : Window) → bits ≡ child_bits inside → HoldsFront (bits ++ behind) rest window → HoldsFront (zero_bit ++ (zero_bit ++ (inside ++ (zero_bit ++ behind)))) rest window
child_opened inside behind rest bits window is h =
    let pieces : bits ++ behind ≡ zero_bit ++ (zero_bit ++ (inside ++ (zero_bit ++ behind))) =
    ap (λ (l : List Bool). l ++ behind) is
    ∙ append_assoc zero_bit (zero_bit ++ (inside ++ zero_bit)) behind
    ∙ ap (λ (l : List Bool). zero_bit ++ l) (append_assoc zero_bit (inside ++ zero_bit) behind ∙ ap (λ (l : List Bool). zero_bit ++ l) (append_assoc inside zero_bit behind)) in
    subst (λ (l : List Bool). HoldsFront l rest window) pieces h

-- ---- bits that stand at the front

pub front_held : (front rest : List Bool) (cursor : Cursor) (window : Window) → ahead cursor ≡ front ++ rest → length front ≤ 57 → window.cursor ≡ cursor → HoldsNext window → HoldsFront front rest window
front_held front rest cursor window at long is next =
    let there : ahead window.cursor ≡ front ++ rest = ap ahead is ∙ at in
    record {
      within = elim next [
        | inl many ↦ omega (arith, many, long)
        | inr all ↦ omega (arith, all, ap length there, length-append front rest, length-drop window.cursor.place window.cursor.bits)
      ];
      there = there;
    }

-- the bits that are left are some
pub front_left : (front rest : List Bool) (cursor : Cursor) → ahead cursor ≡ front ++ rest → 1 ≤ length front → 64 ≤ length cursor.bits → (length cursor.bits < 64) ⊎ (cursor.place ≡ length cursor.bits) → ⊥
front_left front rest cursor at some whole (inl few) = omega (arith, few, whole)
front_left front rest cursor at some whole (inr end) = omega (arith, end, some, ap length at, length-append front rest, length-drop cursor.place cursor.bits)

-- ---- three children

three_long : (a b c : List Bool) → length (a ++ (b ++ (c ++ zero_bit))) ≡ length a + (length b + (length c + 1))
three_long a b c = omega (arith, length-append a (b ++ (c ++ zero_bit)), length-append b (c ++ zero_bit), length-append c zero_bit, length-number_bits 1 0)

-- what a window of the next bits holds
pub three_held : (children : List SequenceChild) (cursor : Cursor) (window : Window) (h : HoldsThree children cursor) → window.cursor ≡ cursor → HoldsNext window →
    HoldsFront (h.one_bits ++ (h.two_bits ++ (h.three_bits ++ zero_bit))) h.rest window
three_held children cursor window h is next =
    front_held (h.one_bits ++ (h.two_bits ++ (h.three_bits ++ zero_bit))) h.rest cursor window h.there (omega (arith, h.few, three_long h.one_bits h.two_bits h.three_bits)) is next

pub three_left : (children : List SequenceChild) (cursor : Cursor) → HoldsThree children cursor → (length cursor.bits < 64) ⊎ (cursor.place ≡ length cursor.bits) → ⊥
three_left children cursor h none =
    front_left (h.one_bits ++ (h.two_bits ++ (h.three_bits ++ zero_bit))) h.rest cursor h.there (omega (arith, three_long h.one_bits h.two_bits h.three_bits)) h.whole_word none

-- the children are those that are told
pub three_are : (children : List SequenceChild) (a b c : SequenceChild) (cursor : Cursor) (h : HoldsThree children cursor) → children ≡ a ∷ b ∷ c ∷ [] → SpellsChild a h.one_bits × SpellsChild b h.two_bits × SpellsChild c h.three_bits
three_are children a b c cursor h is =
    let same : h.one ∷ h.two ∷ h.three ∷ [] ≡ a ∷ b ∷ c ∷ [] = sym h.children_are ∙ is in (
      subst (λ (x : SequenceChild). SpellsChild x h.one_bits) (ap (λ (l : List SequenceChild). get_or l 0 a) same) h.first_is,
      subst (λ (x : SequenceChild). SpellsChild x h.two_bits) (ap (λ (l : List SequenceChild). get_or l 1 a) same) h.second_is,
      subst (λ (x : SequenceChild). SpellsChild x h.three_bits) (ap (λ (l : List SequenceChild). get_or l 2 a) same) h.third_is,
    )

pub end_opened : (rest : List Bool) (window : Window) → HoldsFront zero_bit rest window → HoldsFront (zero_bit ++ []) rest window
end_opened rest window h = subst (λ (l : List Bool). HoldsFront l rest window) (sym (append-nil zero_bit)) h
