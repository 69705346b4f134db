-- A text that is looked for in a partition.
use Rattle.std.proofs.Common.{◌≡◌, ◌≢◌, ℕ, ◌+◌, ◌<◌, ◌≤◌, Bool, true, false, List, length, map, sym, ap, ◌∙◌, arith, Some, ◌↔◌, IsTrue}
use Rattle.std.specs.Prelude.{slice_get, option_map}
use borrow.Author.Count.{below_more}
use Rattle.std.proofs.lemmas.Bool.{false≢true}
use Rattle.std.proofs.lemmas.List.{length-map}
use Rattle.std.proofs.lemmas.Option.{slice_get-map, slice_get_within}
use Rattle.exi_bits.specs.Lent.{IsSpan, text_at}
use Rattle.exi_bits.specs.declared.span.SpanAt.{SpanAt}
use Rattle.exi_bits.proofs.Spans.{items_of-held}
use Rattle.exi_reading.specs.Texts.{IsFirstAt, IsAbsent}
use Rattle.exi_reading.proofs.Places.{text_of}

-- it is none of the first ones
abbrev pub NotBefore : List (List ℕ) → List ℕ → ℕ → Type 0
NotBefore partition text i = (k : ℕ) → k < i → slice_get partition k ≢ Some text

pub found_text : (bits : List Bool) (texts : List (List ℕ)) (places : List SpanAt) (i : ℕ) (at : SpanAt) → texts ≡ map (text_of bits) places → Some at ≡ slice_get places i → slice_get texts i ≡ Some (text_of bits at)
found_text bits texts places i at same found =
    ap (λ (l : List (List ℕ)). slice_get l i) same ∙ slice_get-map (text_of bits) places i ∙ ap (option_map (text_of bits)) (sym found)

-- a partition of texts has as many as that of their places
pub same_count : (bits : List Bool) (texts : List (List ℕ)) (places : List SpanAt) (count : ℕ) → texts ≡ map (text_of bits) places → count ≡ length places → count ≡ length texts
same_count bits texts places count same long = long ∙ sym (ap length same ∙ length-map places (text_of bits))

pub first_there : (bits : List Bool) (texts : List (List ℕ)) (places : List SpanAt) (i : ℕ) (at : SpanAt) (text : List ℕ) (b : Bool) → texts ≡ map (text_of bits) places → Some at ≡ slice_get places i → (IsTrue b ↔ (text_of bits at ≡ text)) → b ≡ true → NotBefore texts text i → IsFirstAt texts text i
first_there bits texts places i at text b same found is_same passes before =
    record { found = found_text bits texts places i at same found ∙ ap (λ (t : List ℕ). Some t) (is_same.0 passes); first = before }

some_is : (a b : List ℕ) → Some a ≡ Some b → a ≡ b
some_is a b e = cc

pub not_there : (bits : List Bool) (texts : List (List ℕ)) (places : List SpanAt) (i : ℕ) (at : SpanAt) (text : List ℕ) (b : Bool) → texts ≡ map (text_of bits) places → Some at ≡ slice_get places i → (IsTrue b ↔ (text_of bits at ≡ text)) → b ≡ false → NotBefore texts text i → NotBefore texts text (i + 1)
not_there bits texts places i at text b same found is_same fails before =
    below_more (λ k. slice_get texts k ≢ Some text) i before
    (λ here. false≢true (sym fails ∙ is_same.1 (some_is (text_of bits at) text (sym (found_text bits texts places i at same found) ∙ here))))

pub all_passed : (texts : List (List ℕ)) (text : List ℕ) (i : ℕ) → length texts ≤ i → NotBefore texts text i → IsAbsent texts text
all_passed texts text i past before k found = before k (let below : k < length texts = slice_get_within texts k text found in omega arith) found

pub first_below : (texts : List (List ℕ)) (text : List ℕ) (count i : ℕ) → count ≡ length texts → IsFirstAt texts text i → i < count
first_below texts text count i long first = let below : i < length texts = slice_get_within texts i text first.found in omega arith

-- a text of another length is another one
pub other_length : (bits : List Bool) (at : SpanAt) (text : List ℕ) (count : ℕ) (b : Bool) → IsSpan (text_at bits at) → count ≡ length text → (at.chars ≡ count → ⊥) → b ≡ false → (IsTrue b ↔ (text_of bits at ≡ text))
other_length bits at text count b spelled long other fails =
    let own : length (text_of bits at) ≡ at.chars = ap length (items_of-held (text_at bits at) spelled.0 spelled.1) ∙ spelled.1.long in (
      (λ passes. absurd (false≢true (sym fails ∙ passes))),
      (λ same. absurd (other (sym own ∙ ap length same ∙ sym long))),
    )
