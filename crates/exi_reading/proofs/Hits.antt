-- A text that is taken by its index in a partition.
use Rattle.std.proofs.Common.{◌≡◌, ℕ, ◌<◌, Bool, List, length, map, refl, sym, ap, subst, ◌∙◌, inl, inr, Some, None, Result, Ok, Err}
use Rattle.std.specs.Prelude.{slice_get, option_map}
use Rattle.std.specs.Result.{IfOk, IfErr}
use Rattle.std.proofs.lemmas.List.{length-map}
use Rattle.std.proofs.lemmas.Option.{slice_get-map}
use Rattle.exi_spec.specs.Items.{SpellsNumber, RefusesBits}
use Rattle.exi_bits.specs.Lent.{Span, items_of, text_at}
use Rattle.exi_bits.specs.Reading.{Cursor, Takes, ahead}
use Rattle.exi_bits.specs.declared.span.SpanAt.{SpanAt}
use Rattle.exi_values.specs.Texts.{IsIndexWidth, SpellsIndex}
use Rattle.exi_values.specs.Values.{RefusesItem, RefusesIndex}
use Rattle.exi_values.specs.Refusal.{Refusal}
use Rattle.exi_values.specs.RefusalCause.{RefusalCause}
use Rattle.exi_values.specs.RefusalCause.TheVariants.{TooLong, NoSuchIndex}
use Rattle.exi_reading.proofs.Places.{text_of}

-- a partition of texts by the partition of their places
abbrev pub IsPartition : List Bool → List (List ℕ) → List SpanAt → Type 0
IsPartition bits texts places = texts ≡ map (text_of bits) places

width_of : (bits : List Bool) (texts : List (List ℕ)) (places : List SpanAt) (count width : ℕ) → IsPartition bits texts places → count ≡ length places → IsIndexWidth count width → IsIndexWidth (length texts) width
width_of bits texts places count width same long w =
    let e : count ≡ length texts = long ∙ sym (ap length same ∙ length-map places (text_of bits)) in
    subst (λ (n : ℕ). IsIndexWidth n width) e w

found_text : (bits : List Bool) (texts : List (List ℕ)) (places : List SpanAt) (i : ℕ) (at : SpanAt) → IsPartition bits texts places → Some at ≡ slice_get places i → slice_get texts i ≡ Some (text_of bits at)
found_text bits texts places i at same found =
    ap (λ (l : List (List ℕ)). slice_get l i) same ∙ slice_get-map (text_of bits) places i ∙ ap (option_map (text_of bits)) (sym found)

no_text : (bits : List Bool) (texts : List (List ℕ)) (places : List SpanAt) (i : ℕ) → IsPartition bits texts places → None ≡ slice_get places i → slice_get texts i ≡ None
no_text bits texts places i same none =
    ap (λ (l : List (List ℕ)). slice_get l i) same ∙ slice_get-map (text_of bits) places i ∙ ap (option_map (text_of bits)) (sym none)

takes_index : (bits : List Bool) (texts : List (List ℕ)) (places : List SpanAt) (count width i : ℕ) (at : SpanAt) (old new : Cursor) → IsPartition bits texts places → count ≡ length places → IsIndexWidth count width → Some at ≡ slice_get places i → Takes (SpellsNumber width i) old new → Takes (SpellsIndex texts (text_of bits at)) old new
takes_index bits texts places count width i at old new same long w found t = (
  t.0,
  record { index = i; width = width; is_width = width_of bits texts places count width same long w; found = found_text bits texts places i at same found; spelled = t.1 },
  t.2,
)

-- as it is lent, from a payload of these bits
pub hit_ok : (bits held : List Bool) (texts : List (List ℕ)) (places : List SpanAt) (count width i : ℕ) (at : SpanAt) (old new : Cursor) (r : Result Span Refusal) → bits ≡ held → IsPartition bits texts places → count ≡ length places → IsIndexWidth count width → Some at ≡ slice_get places i → Takes (SpellsNumber width i) old new → IfOk r (λ s. s ≡ text_at held at) → IfOk r (λ s. Takes (SpellsIndex texts (items_of s)) old new)
hit_ok bits held texts places count width i at old new (Ok s) e same long w found t is =
    subst (λ (z : Span). Takes (SpellsIndex texts (items_of z)) old new) (ap (λ (l : List Bool). text_at l at) e ∙ sym is) (takes_index bits texts places count width i at old new same long w found t)
hit_ok bits held texts places count width i at old new (Err x) e same long w found t is = tt

-- the index can't be taken
pub short_index : (bits : List Bool) (texts : List (List ℕ)) (places : List SpanAt) (most count width : ℕ) (left : List Bool) (cause : RefusalCause) → IsPartition bits texts places → count ≡ length places → IsIndexWidth count width → RefusesItem (RefusesBits width) left cause → RefusesIndex most texts left cause
short_index bits texts places most count width left cause same long w refused =
    record { width = width; is_width = width_of bits texts places count width same long w; refused = inl refused }

pub no_such_index : (bits : List Bool) (texts : List (List ℕ)) (places : List SpanAt) (most count width i : ℕ) (old new : Cursor) → IsPartition bits texts places → count ≡ length places → IsIndexWidth count width → None ≡ slice_get places i → Takes (SpellsNumber width i) old new → RefusesIndex most texts (ahead old) NoSuchIndex
no_such_index bits texts places most count width i old new same long w none t =
    record {
      width = width;
      is_width = width_of bits texts places count width same long w;
      refused = inr (i, (t.0, ahead new, t.1, t.2.there), inl (no_text bits texts places i same none, refl));
    }

pub long_hit : (bits held : List Bool) (texts : List (List ℕ)) (places : List SpanAt) (most count width i bit : ℕ) (at : SpanAt) (old new : Cursor) (r : Result Span Refusal) → bits ≡ held → IsPartition bits texts places → count ≡ length places → IsIndexWidth count width → Some at ≡ slice_get places i → Takes (SpellsNumber width i) old new → IfErr r (λ _. most < length (text_of held at)) → IfErr r (λ e. e ≡ record { cause = TooLong; bit = bit }) → IfErr r (λ e. RefusesIndex most texts (ahead old) e.cause)
long_hit bits held texts places most count width i bit at old new (Ok s) e same long w found t more is = tt
long_hit bits held texts places most count width i bit at old new (Err x) e same long w found t more is =
    record {
      width = width;
      is_width = width_of bits texts places count width same long w;
      refused = inr (
        i,
        (t.0, ahead new, t.1, t.2.there),
        inr (
          text_of bits at,
          found_text bits texts places i at same found,
          subst (λ (l : List Bool). most < length (text_of l at)) (sym e) more,
          ap (λ (z : Refusal). z.cause) is,
        ),
      );
    }
