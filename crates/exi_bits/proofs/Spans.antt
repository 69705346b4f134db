-- What a span contains is what is spelled there.
use Rattle.std.proofs.Common.{◌≡◌, ℕ, suc, ◌+◌, ◌*◌, ◌<◌, ◌≤◌, Bool, true, false, List, [], ◌∷◌, ◌++◌, length, take, drop, refl, sym, ap, subst, ◌∙◌, arith, get_or, Fits, w8}
use Rattle.std.specs.Char.{IsScalar}
use Rattle.std.specs.List.{AllByRecursion}
use Rattle.std.proofs.lemmas.List.{length-drop, take-append-drop, append-nil}
use Rattle.exi_spec.specs.Bits.{bits_of}
use Rattle.exi_spec.specs.Items.{SpellsChars, SpellsBytes}
use Rattle.exi_spec.specs.Plain.{bytes_in}
use Rattle.exi_spec.proofs.PlainLaws.{chars_in-spelled, bytes_in-spelled, bytes_there}
use Rattle.exi_bits.specs.Lent.{Span, SpellsItems, Holds, items_in, items_of}

items_in-spelled : (text : Bool) (items : List ℕ) (front rest : List Bool) → SpellsItems text items front → items_in text (length items) (front ++ rest) ≡ items
items_in-spelled true items front rest s = chars_in-spelled items front rest s
items_in-spelled false items front rest s = bytes_in-spelled items front rest s

-- no other items are spelled there
pub items_of-held : (span : Span) (items : List ℕ) → Holds span items → items_of span ≡ items
items_of-held span items h =
    let b = h.spelled in
    ap (λ (n : ℕ). items_in span.is_text n (drop span.bit span.bits)) (sym h.long)
    ∙ ap (λ (l : List Bool). items_in span.is_text (length items) l) b.3
    ∙ items_in-spelled span.is_text items b.0 b.1 b.2

pub held : (span : Span) (items : List ℕ) → Holds span items → Holds span (items_of span)
held span items h = subst (λ (xs : List ℕ). Holds span xs) (sym (items_of-held span items h)) h

chars_scalar : (chars : List ℕ) (bits : List Bool) → SpellsChars chars bits → AllByRecursion (λ char. IsScalar char) chars
chars_scalar [] bits h = tt
chars_scalar (char ∷ chars) bits h = (h.2.scalar, chars_scalar chars h.1 h.3)

-- a text contains code points, a Binary bytes
pub held_scalar : (span : Span) (items : List ℕ) → Holds span items → span.is_text ≡ true → AllByRecursion (λ char. IsScalar char) items
held_scalar span items h is = let b = h.spelled in chars_scalar items b.0 (subst (λ (t : Bool). SpellsItems t items b.0) is b.2)

pub held_bytes : (span : Span) (items : List ℕ) → Holds span items → span.is_text ≡ false → AllByRecursion (λ byte. byte < 256) items
held_bytes span items h is = let b = h.spelled in let s : SpellsBytes items b.0 = subst (λ (t : Bool). SpellsItems t items b.0) is b.2 in s.range

-- ---- bytes at a bit

pub binary_held : (bits : List Bool) (bit n : ℕ) → bit + 8 * n ≤ length bits → Holds (record { bits = bits; bit = bit; count = n; is_text = false }) (bytes_in n (drop bit bits))
binary_held bits bit n h =
    let there = bytes_there n (drop bit bits) (omega (arith, length-drop bit bits)) in
    record { within = omega (arith, h); long = there.0; spelled = (take (8 * n) (drop bit bits), drop (8 * n) (drop bit bits), there.1, sym (take-append-drop (8 * n) (drop bit bits))) }

all_bytes : (bytes : List ℕ) → ((i : ℕ) → get_or bytes i 0 < 256) → AllByRecursion (λ byte. byte < 256) bytes
all_bytes [] fits = tt
all_bytes (byte ∷ bytes) fits = (fits 0, all_bytes bytes (λ i. fits (suc i)))

-- the Binary of bytes contains them
pub bytes_in_bytes : (bytes : List ℕ) → ((i : ℕ) → Fits w8 (get_or bytes i 0)) → bytes_in (length bytes) (bits_of bytes) ≡ bytes
bytes_in_bytes bytes fits =
    let below : (i : ℕ) → get_or bytes i 0 < 256 = λ i. omega (arith, fits i) in
    ap (λ (l : List Bool). bytes_in (length bytes) l) (sym (append-nil (bits_of bytes)))
    ∙ bytes_in-spelled bytes (bits_of bytes) [] (record { range = all_bytes bytes below; spelled = refl })
