-- A document as far as it is written, by a pen and by a writer.
use Rattle.std.proofs.Common.{◌≡◌, ℕ, ◌*◌, ◌≤◌, Bool, false, List, ◌∷◌, length, take, replicate, arith, Result, sym, ap, ap₂, subst, ◌∙◌, Option, Some, OnOk}
use Rattle.std.proofs.lemmas.List.{length-take}
use Rattle.std.proofs.lemmas.Result.{IfOk-weaker}
use Rattle.exi_spec.specs.Bits.{bits_of}
use Rattle.exi_spec.proofs.BitLaws.{length-bits_of}
use Rattle.exi_bits.specs.Pens.{written_bits, Writes}
use Rattle.exi_bits.specs.Written.{HoldsBits}
use Rattle.exi_bits.specs.declared.pen.BitPen.{BitPen}
use Rattle.exi_bits.specs.declared.span.SpanAt.{SpanAt}
use Rattle.exi_schema.specs.declared.places.Places.{Ghosts}
use Rattle.exi_schema.specs.Schemas.{PlainSchema}
use Rattle.exi_writing.specs.Grammar.{Opened, State}
use Rattle.exi_writing.specs.Trees.{Event as TreeEvent}
use Rattle.exi_writing.specs.Meaning.{texts_in, AreTexts}
use Rattle.exi_writing.proofs.Stays.{are_texts_behind, texts_behind}
use Rattle.exi_events.specs.declared.reader.Phase.{Phase}
use Rattle.exi_events.specs.declared.writer.EventWriter.{EventWriter}
use Rattle.exi_events.specs.Reader.{state_of}
use Rattle.exi_events.specs.Writer.{Draft, drafted, draft_of, KeepsLent, Adds, HasPut, IsPut}

pub adds : (old new : BitPen) (before after : State) (bits : List Bool) → Writes old new bits → Adds (drafted old before) (drafted new after) bits
adds old new before after bits w = record { written = w.written; room = w.room }

-- ---- between two calls

module _ (phase : Phase) (elements : List Opened) (entries : List (ℕ × SpanAt)) where
  abbrev draft_with : List ℕ → List Bool → Draft
  draft_with room bits = record { room = room; bits = bits; state = state_of phase elements bits entries }

  -- behind the first n bits of a room
  abbrev pub draft_in : List ℕ → ℕ → Draft
  draft_in room n = draft_with room (take n (bits_of room))

  -- of a writer, as of the pen that is made behind its bits
  pub begun_in : (F : Draft → Type 0) (pen : BitPen) (room : List ℕ) (n : ℕ) → pen.room.now ≡ room → written_bits pen ≡ take n (bits_of room) → F (drafted pen (state_of phase elements (written_bits pen) entries)) → F (draft_in room n)
  begun_in F pen room n same front h = subst F (ap₂ draft_with same front) h

  -- of a writer, as its pen left it
  pub left_in : (F : Draft → Type 0) (pen : BitPen) (room : List ℕ) (n : ℕ) → room ≡ pen.room.now → take n (bits_of pen.room.now) ≡ written_bits pen → F (drafted pen (state_of phase elements (written_bits pen) entries)) → F (draft_in room n)
  left_in F pen room n same front h =
      begun_in F pen room n (sym same) (sym (ap (λ (l : List ℕ). take n (bits_of l)) same ∙ front)) h

module _ {P : Type 0} {p : Ghosts P} where
  pub within_room : (w : EventWriter P p) → length (draft_of w).bits ≤ 8 * length w.room.now
  within_room w = omega (arith, length-take w.bits (bits_of w.room.now), length-bits_of w.room.now)

  pub lent_both : (a b c : EventWriter P p) → KeepsLent a b → KeepsLent b c → KeepsLent a c
  lent_both a b c p q = record { room = q.room ∙ p.room; table = q.table ∙ p.table; places = q.places ∙ p.places }

-- ---- the whole document

one_more : (s : PlainSchema) (events : List TreeEvent) (old new : Draft) (o : Option TreeEvent) → HasPut s events old → IsPut s old new o → (told : TreeEvent) → o ≡ Some told → HasPut s (told ∷ events) new
one_more s events old new o h put told is =
    let p : IsPut s old new (Some told) = subst (λ (x : Option TreeEvent). IsPut s old new x) is put in
    (old.state, old.bits, p.0, h, p.1, p.2.written)

pub told_more : {T E : Type 0} (r : Result T E) (s : PlainSchema) (events : List TreeEvent) (old new : Draft) (o : Option TreeEvent) → HasPut s events old → OnOk r (IsPut s old new o) → OnOk r ((told : TreeEvent) → o ≡ Some told → HasPut s (told ∷ events) new)
told_more r s events old new o h put = IfOk-weaker r (λ _. IsPut s old new o) (λ _. (told : TreeEvent) → o ≡ Some told → HasPut s (told ∷ events) new) (λ _ p. one_more s events old new o h p) put

-- ---- texts in the bytes that hold the bits

pub texts_held : (bytes : List ℕ) (bits : List Bool) (entries : List (ℕ × SpanAt)) → HoldsBits bytes bits → AreTexts bits entries → AreTexts (bits_of bytes) entries
texts_held bytes bits entries h all =
    subst (λ (l : List Bool). AreTexts l entries) (sym h.there) (are_texts_behind bits (replicate h.pad false) entries all)

pub same_texts : (bytes : List ℕ) (bits : List Bool) (entries : List (ℕ × SpanAt)) → HoldsBits bytes bits → AreTexts bits entries → texts_in (bits_of bytes) entries ≡ texts_in bits entries
same_texts bytes bits entries h all =
    ap (λ (l : List Bool). texts_in l entries) h.there ∙ texts_behind bits (replicate h.pad false) entries all
