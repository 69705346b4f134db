-- Texts that stand in what is written stay there when more is written behind it.
use Rattle.std.proofs.Common.{◌≡◌, ℕ, Bool, false, List, [], ◌∷◌, ◌++◌, replicate, refl, sym, ap, subst, ◌∙◌, arith, append_assoc, ◌↔◌, IsTrue}
use Rattle.std.proofs.lemmas.List.{length-append, drop-append-le}
use Rattle.exi_spec.specs.Bits.{bits_of}
use Rattle.exi_bits.specs.Lent.{Span, Holds, IsSpan, items_of, text_at}
use Rattle.exi_bits.specs.Written.{HoldsBits}
use Rattle.exi_bits.specs.declared.span.SpanAt.{SpanAt}
use Rattle.exi_bits.proofs.Spans.{items_of-held}
use Rattle.exi_reading.specs.Meaning.{AreTexts, texts_in}

held_behind : (bits more : List Bool) (at : SpanAt) (items : List ℕ) → Holds (text_at bits at) items → Holds (text_at (bits ++ more) at) items
held_behind bits more at items h =
    let b = h.spelled in
    record {
      within = omega (arith, h.within, length-append bits more);
      long = h.long;
      spelled = (
        b.0,
        b.1 ++ more,
        b.2,
        drop-append-le at.bit bits more h.within ∙ ap (λ (l : List Bool). l ++ more) b.3 ∙ append_assoc b.0 b.1 more,
      );
    }

pub span_behind : (bits more : List Bool) (at : SpanAt) → IsSpan (text_at bits at) → IsSpan (text_at (bits ++ more) at)
span_behind bits more at s = (s.0, held_behind bits more at s.0 s.1)

pub items_behind : (bits more : List Bool) (at : SpanAt) → IsSpan (text_at bits at) → items_of (text_at (bits ++ more) at) ≡ items_of (text_at bits at)
items_behind bits more at s =
    items_of-held (text_at (bits ++ more) at) s.0 (held_behind bits more at s.0 s.1) ∙ sym (items_of-held (text_at bits at) s.0 s.1)

pub are_texts_behind : (bits more : List Bool) (entries : List (ℕ × SpanAt)) → AreTexts bits entries → AreTexts (bits ++ more) entries
are_texts_behind bits more [] all = tt
are_texts_behind bits more (e ∷ entries) all = (span_behind bits more e.1 all.0, are_texts_behind bits more entries all.1)

pub texts_behind : (bits more : List Bool) (entries : List (ℕ × SpanAt)) → AreTexts bits entries → texts_in (bits ++ more) entries ≡ texts_in bits entries
texts_behind bits more [] all = refl
texts_behind bits more (e ∷ entries) all =
    ap (λ (l : List (ℕ × List ℕ)). (e.0, items_of (text_at (bits ++ more) e.1)) ∷ l) (texts_behind bits more entries all.1)
    ∙ ap (λ (t : List ℕ). (e.0, t) ∷ texts_in bits entries) (items_behind bits more e.1 all.0)

-- ---- bytes that hold the bits

pub span_held : (bytes : List ℕ) (bits : List Bool) (at : SpanAt) → HoldsBits bytes bits → IsSpan (text_at bits at) → IsSpan (text_at (bits_of bytes) at)
span_held bytes bits at h s =
    subst (λ (l : List Bool). IsSpan (text_at l at)) (sym h.there) (span_behind bits (replicate h.pad false) at s)

pub same_held : (bytes text : List ℕ) (bits : List Bool) (at : SpanAt) (other : Span) (b : Bool) → HoldsBits bytes bits → IsSpan (text_at bits at) → other ≡ text_at (bits_of bytes) at → (IsTrue b ↔ (items_of other ≡ text)) → (IsTrue b ↔ (items_of (text_at bits at) ≡ text))
same_held bytes text bits at other b h s is same =
    let e : items_of other ≡ items_of (text_at bits at) =
    ap items_of is ∙ ap (λ (l : List Bool). items_of (text_at l at)) h.there ∙ items_behind bits (replicate h.pad false) at s in
    ((λ t. sym e ∙ same.0 t), (λ i. same.1 (e ∙ i)))
