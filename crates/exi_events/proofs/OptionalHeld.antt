-- What a window holds of a sequence of which the second child may be absent is taken from it.
use Rattle.std.proofs.Common.{◌≡◌, ℕ, ◌+◌, ◌<◌, ◌≤◌, Bool, List, ◌++◌, length, ap, subst, ◌∙◌, arith, append_assoc, inl, inr, ◌⊎◌}
use Rattle.std.proofs.lemmas.List.{length-append}
use Rattle.exi_spec.specs.Bits.{number_bits}
use Rattle.exi_spec.specs.Items.{SpellsNumber}
use Rattle.exi_spec.proofs.BitLaws.{length-number_bits}
use Rattle.exi_bits.specs.Reading.{Cursor, Window, HoldsNext, HoldsOn, Takes}
use Rattle.exi_schema.specs.declared.places.OptionalSequence.{OptionalSequence}
use Rattle.exi_events.specs.Sequence.{HoldsFront, SpellsChild}
use Rattle.exi_events.specs.Optional.{HoldsTwoOrThree, SpellsRest, SpellsStarted}
use Rattle.exi_events.proofs.Taking.{zero_bit, code_held, code_is, code_behind, front_held, front_left}

-- ---- behind the first child

-- the bits behind a code
behind_code : (bits inside last : List Bool) (n v : ℕ) (window : Window) → bits ≡ number_bits n v ++ inside → HoldsFront (bits ++ zero_bit) last window → HoldsFront (number_bits n v ++ (inside ++ zero_bit)) last window
behind_code bits inside last n v window is h =
    subst (λ (l : List Bool). HoldsFront l last window) (ap (λ (l : List Bool). l ++ zero_bit) is ∙ append_assoc (number_bits n v) inside zero_bit) h

module _ (children : OptionalSequence) (bits last : List Bool) where
  pub rest_held : (window : Window) → SpellsRest children bits → HoldsFront (bits ++ zero_bit) last window → 2 ≤ window.held
  rest_held window (inl w) h = code_held 2 0 (omega arith) _ last window (behind_code bits (w.0 ++ w.1) last 2 0 window w.4 h)
  rest_held window (inr w) h = code_held 2 1 (omega arith) _ last window (behind_code bits w.0 last 2 1 window w.2 h)

  module _ (code : ℕ) (old new : Window) (on : HoldsOn old new) (took : Takes (SpellsNumber 2 code) old.cursor new.cursor) where
    pub second_there : SpellsRest children bits → HoldsFront (bits ++ zero_bit) last old → code ≡ 0 →
        (two : List Bool) × (three : List Bool) × SpellsStarted children.second two × SpellsChild children.third three × HoldsFront (two ++ (three ++ zero_bit)) last new
    second_there (inl w) h is =
        let behind = code_behind 2 0 (omega arith) code _ last old new on took (behind_code bits (w.0 ++ w.1) last 2 0 old w.4 h) in
        (w.0, w.1, w.2, w.3, subst (λ (l : List Bool). HoldsFront l last new) (append_assoc w.0 w.1 zero_bit) behind)
    second_there (inr w) h is = absurd (omega (arith, is, code_is 2 1 (omega arith) code _ last old new took (behind_code bits w.0 last 2 1 old w.2 h)))

    pub second_absent : SpellsRest children bits → HoldsFront (bits ++ zero_bit) last old → (code ≡ 0 → ⊥) →
        (three : List Bool) × (code ≡ 1) × SpellsStarted children.third three × HoldsFront (three ++ zero_bit) last new
    second_absent (inl w) h not = absurd (not (code_is 2 0 (omega arith) code _ last old new took (behind_code bits (w.0 ++ w.1) last 2 0 old w.4 h)))
    second_absent (inr w) h not =
        let front = behind_code bits w.0 last 2 1 old w.2 h in
        (w.0, code_is 2 1 (omega arith) code _ last old new took front, w.1, code_behind 2 1 (omega arith) code _ last old new on took front)

-- ---- all of them

module _ (children : OptionalSequence) (cursor : Cursor) (h : HoldsTwoOrThree children cursor) where
  abbrev front : List Bool
  front = h.first_bits ++ (h.rest_bits ++ zero_bit)

  front_long : length front ≡ length h.first_bits + (length h.rest_bits + 1)
  front_long = omega (arith, length-append h.first_bits (h.rest_bits ++ zero_bit), length-append h.rest_bits zero_bit, length-number_bits 1 0)

  pub all_held : (window : Window) → window.cursor ≡ cursor → HoldsNext window → HoldsFront (h.first_bits ++ (h.rest_bits ++ zero_bit)) h.rest window
  all_held window is next = front_held front h.rest cursor window h.there (omega (arith, h.few, front_long)) is next

  pub all_left : (length cursor.bits < 64) ⊎ (cursor.place ≡ length cursor.bits) → ⊥
  all_left none = front_left front h.rest cursor h.there (omega (arith, front_long)) h.whole_word none
