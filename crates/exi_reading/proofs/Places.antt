-- The texts at the places of a table.
use Rattle.std.proofs.Common.{◌≡◌, ℕ, zero, suc, Bool, true, false, cond, eqb, List, [], ◌∷◌, ◌++◌, map, refl, sym, ap, subst, ◌∙◌, Some}
use Rattle.std.specs.Prelude.{slice_get}
use Rattle.std.specs.List.{AllByRecursion}
use Rattle.exi_bits.specs.Lent.{Span, IsSpan, items_of, text_at}
use Rattle.exi_bits.specs.declared.span.SpanAt.{SpanAt}
use Rattle.exi_values.specs.Table.{Table, global_of, local_of}
use Rattle.exi_values.specs.Meaning.{texts_in, AreTexts}

-- the text at a place
abbrev pub text_of : List Bool → SpanAt → List ℕ
text_of bits at = items_of (text_at bits at)

abbrev pub ArePlaces : List Bool → List SpanAt → Type 0
ArePlaces bits places = AllByRecursion (λ at. IsSpan (text_at bits at)) places

pub global_of-texts : (bits : List Bool) (entries : List (ℕ × SpanAt)) → global_of (texts_in bits entries) ≡ map (text_of bits) (global_of entries)
global_of-texts bits [] = refl
global_of-texts bits (e ∷ entries) = ap (λ (l : List (List ℕ)). text_of bits e.1 ∷ l) (global_of-texts bits entries)

pub local_of-texts : (bits : List Bool) (name : ℕ) (entries : List (ℕ × SpanAt)) → local_of name (texts_in bits entries) ≡ map (text_of bits) (local_of name entries)
local_of-texts bits name [] = refl
local_of-texts bits name (e ∷ entries) =
    elim (eqb e.0 name) as (λ b. cond b (text_of bits e.1 ∷ local_of name (texts_in bits entries)) (local_of name (texts_in bits entries)) ≡ map (text_of bits) (cond b (e.1 ∷ local_of name entries) (local_of name entries))) [
      | true ↦ ap (λ (l : List (List ℕ)). text_of bits e.1 ∷ l) (local_of-texts bits name entries)
      | false ↦ local_of-texts bits name entries
    ]

pub global_places : (bits : List Bool) (entries : List (ℕ × SpanAt)) → AreTexts bits entries → ArePlaces bits (global_of entries)
global_places bits [] all = tt
global_places bits (e ∷ entries) all = (all.0, global_places bits entries all.1)

pub local_places : (bits : List Bool) (name : ℕ) (entries : List (ℕ × SpanAt)) → AreTexts bits entries → ArePlaces bits (local_of name entries)
local_places bits name [] all = tt
local_places bits name (e ∷ entries) all =
    elim (eqb e.0 name) as (λ b. ArePlaces bits (cond b (e.1 ∷ local_of name entries) (local_of name entries))) [
      | true ↦ (all.0, local_places bits name entries all.1)
      | false ↦ local_places bits name entries all.1
    ]

pub place_spelled : (bits : List Bool) (places : List SpanAt) (i : ℕ) (at : SpanAt) → ArePlaces bits places → Some at ≡ slice_get places i → IsSpan (text_at bits at)
place_spelled bits [] i at all found = absurd cc
place_spelled bits (place ∷ places) zero at all found = let same : place ≡ at = cc in subst (λ (p : SpanAt). IsSpan (text_at bits p)) same all.0
place_spelled bits (place ∷ places) (suc i) at all found = place_spelled bits places i at all.1 found

-- one more entry
pub AreTexts-push : (bits : List Bool) (entries : List (ℕ × SpanAt)) (entry : ℕ × SpanAt) → AreTexts bits entries → IsSpan (text_at bits entry.1) → AreTexts bits (entries ++ entry ∷ [])
AreTexts-push bits [] entry all one = (one, tt)
AreTexts-push bits (e ∷ entries) entry all one = (all.0, AreTexts-push bits entries entry all.1 one)

-- the table behind the entry of a text that lies in the same bits
pub entered_there : (text : Span) (entries : List (ℕ × SpanAt)) (name : ℕ) (at : SpanAt) (new : Table SpanAt) (cap : ℕ) → new ≡ record { entries = entries ++ (name, at) ∷ []; cap = cap } → at ≡ record { bit = text.bit; chars = text.count } → text.is_text ≡ true → AreTexts text.bits entries → IsSpan text → AreTexts text.bits new.entries
entered_there text entries name at new cap new_is at_is kind all spelled =
    let same : text ≡ text_at text.bits at =
    ap (λ (k : Bool). let s : Span = record { bits = text.bits; bit = text.bit; count = text.count; is_text = k } in s) kind
    ∙ ap (λ (a : SpanAt). text_at text.bits a) (sym at_is) in
    subst (λ (t : Table SpanAt). AreTexts text.bits t.entries) (sym new_is)
    (AreTexts-push text.bits entries (name, at) all (subst (λ (s : Span). IsSpan s) same spelled))
