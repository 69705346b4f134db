-- What stands at a cursor's place is taken.
use Rattle.std.proofs.Common.{◌≡◌, ℕ, suc, ◌+◌, ◌*◌, ◌≤◌, Bool, true, false, List, ◌∷◌, ◌++◌, length, take, drop, refl, sym, ap, subst, ◌∙◌, arith, cond, ℤ, pos, negsuc}
use Rattle.std.proofs.lemmas.List.{length-drop, length-take-le, take-append-drop, drop-drop}
use Rattle.exi_spec.specs.Items.{SpellsUnsigned, SpellsInteger, SpellsChars, SpellsBytes}
use Rattle.exi_bits.specs.Lent.{Span, Holds, items_of}
use Rattle.exi_bits.specs.Reading.{ItemAt, Takes}
use Rattle.exi_bits.proofs.Steps.{CharsAt}
use Rattle.exi_spec.proofs.PlainLaws.{bytes_there}
use Rattle.exi_bits.proofs.Spans.{items_of-held}

pub took : (Spells : List Bool → Type 0) (bits : List Bool) (place n : ℕ) → ItemAt Spells bits place n → Takes Spells (record { bits = bits; place = place }) (record { bits = bits; place = place + n })
took Spells bits place n item =
    (item.0, item.1, record { same = refl; moved = ap (λ (k : ℕ). place + k) (sym item.2.long); there = item.2.there })

pub integer_of : (sign : Bool) (magnitude : ℕ) (bits : List Bool) → SpellsUnsigned magnitude bits → SpellsInteger (cond sign (negsuc magnitude) (pos magnitude)) (sign ∷ bits)
integer_of true magnitude bits s = (refl, s)
integer_of false magnitude bits s = (refl, s)

pub integer_there : (bits : List Bool) (place n magnitude : ℕ) (sign : Bool) (z : ℤ) → drop place bits ≡ sign ∷ drop (place + 1) bits → ItemAt (SpellsUnsigned magnitude) bits (place + 1) n → z ≡ cond sign (negsuc magnitude) (pos magnitude) → ItemAt (SpellsInteger z) bits place (1 + n)
integer_there bits place n magnitude sign z there item z_is =
    let on : place + 1 + n ≡ place + (1 + n) = omega arith in (
      sign ∷ item.0,
      subst (λ (w : ℤ). SpellsInteger w (sign ∷ item.0)) (sym z_is) (integer_of sign magnitude item.0 item.1),
      record {
        long = (let e : suc (length item.0) ≡ 1 + n = omega (arith, item.2.long) in e);
        there = there ∙ ap (λ (l : List Bool). sign ∷ l) (item.2.there ∙ ap (λ (k : ℕ). item.0 ++ drop k bits) on);
      },
    )

abbrev text_of : List Bool → ℕ → ℕ → Span
text_of bits place n = record { bits = bits; bit = place; count = n; is_text = true }

abbrev binary_of : List Bool → ℕ → ℕ → Span
binary_of bits place n = record { bits = bits; bit = place; count = n; is_text = false }

pub text_held : (bits : List Bool) (place n found : ℕ) (chars : CharsAt bits place n found) → place ≤ length bits → Holds (record { bits = bits; bit = place; count = n; is_text = true }) chars.0
text_held bits place n found chars within =
    let item = chars.2 in
    record { within = within; long = chars.1; spelled = (item.0, drop (place + found) bits, item.1, item.2.there) }

pub chars_took : (bits : List Bool) (place n found : ℕ) → CharsAt bits place n found → place ≤ length bits → Takes (SpellsChars (items_of (text_of bits place n))) (record { bits = bits; place = place }) (record { bits = bits; place = place + found })
chars_took bits place n found chars within =
    subst (λ (items : List ℕ). Takes (SpellsChars items) (record { bits = bits; place = place }) (record { bits = bits; place = place + found }))
    (sym (items_of-held (text_of bits place n) chars.0 (text_held bits place n found chars within)))
    (took (SpellsChars chars.0) bits place found chars.2)

pub bytes_took : (bits : List Bool) (place n : ℕ) → place + 8 * n ≤ length bits → Takes (SpellsBytes (items_of (binary_of bits place n))) (record { bits = bits; place = place }) (record { bits = bits; place = place + 8 * n })
bytes_took bits place n h =
    let left : 8 * n ≤ length (drop place bits) = omega (arith, length-drop place bits) in
    let there = bytes_there n (drop place bits) left in
    took (SpellsBytes (items_of (binary_of bits place n))) bits place (8 * n) (
      take (8 * n) (drop place bits),
      there.1,
      record {
        long = length-take-le (8 * n) (drop place bits) left;
        there = sym (take-append-drop (8 * n) (drop place bits)) ∙ ap (λ (l : List Bool). take (8 * n) (drop place bits) ++ l) (drop-drop (8 * n) place bits);
      },
    )
