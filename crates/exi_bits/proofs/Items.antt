-- The first of the code points or bytes that a span contains.
use Rattle.std.proofs.Common.{◌≡◌, ℕ, zero, suc, ◌+◌, ◌-◌, ◌*◌, ◌<◌, ◌≤◌, Bool, true, false, List, [], ◌∷◌, ◌++◌, length, take, drop, Result, Ok, refl, sym, ap, subst, ◌∙◌, arith, append_assoc}
use Rattle.std.proofs.lemmas.List.{length-drop, length-append, drop-drop, take_at}
use Rattle.std.specs.Char.{IsScalar}
use Rattle.exi_spec.specs.declared.BitCause.{BitCause}
use Rattle.exi_spec.specs.declared.BitCause.TheVariants.{ShortInput, WiderInteger, BadChar}
use Rattle.exi_spec.specs.Bits.{number_bits, number_of}
use Rattle.exi_spec.specs.Items.{SpellsChar, SpellsChars, RefusesChar}
use Rattle.exi_spec.specs.Plain.{octets_in, first_char, chars_in, bytes_in}
use Rattle.exi_spec.proofs.BitLaws.{length-number_bits, number_of-number_bits, length-bits_of}
use Rattle.exi_spec.proofs.PlainLaws.{octets_in-spelled, octets_in-refused}
use Rattle.exi_bits.specs.Lent.{Span, Holds, IsSpan, items_in}
use Rattle.exi_bits.specs.Reading.{ItemAt}
use Rattle.exi_bits.proofs.Spans.{binary_held}

abbrev text_of : List Bool → ℕ → ℕ → Span
text_of bits bit n = record { bits = bits; bit = bit; count = n; is_text = true }

abbrev binary_of : List Bool → ℕ → ℕ → Span
binary_of bits bit n = record { bits = bits; bit = bit; count = n; is_text = false }

-- a text that isn't empty begins with a code point
record BeginsText (bits : List Bool) (bit n : ℕ) : Type 0 where
  pub char : ℕ
  pub chars : List ℕ
  pub first : List Bool
  pub later : List Bool
  pub rest : List Bool
  pub spelled : SpellsChar char first
  pub others : SpellsChars chars later
  pub there : drop bit bits ≡ first ++ (later ++ rest)
  pub long : suc (length chars) ≡ n

by_items : (bits : List Bool) (bit n : ℕ) (items : List ℕ) → 0 < n → Holds (text_of bits bit n) items → BeginsText bits bit n
by_items bits bit n [] some h = absurd (omega (arith, h.long))
by_items bits bit n (char ∷ chars) some h =
    let b = h.spelled in
    let s = b.2 in
    record {
      char = char;
      chars = chars;
      first = s.0;
      later = s.1;
      rest = b.1;
      spelled = s.2;
      others = s.3;
      there = b.3 ∙ ap (λ (l : List Bool). l ++ b.1) s.4 ∙ append_assoc s.0 s.1 b.1;
      long = h.long;
    }

begins_text : (bits : List Bool) (bit n : ℕ) → 0 < n → IsSpan (text_of bits bit n) → BeginsText bits bit n
begins_text bits bit n some s = by_items bits bit n s.0 some s.1

read_first : (bits : List Bool) (bit n : ℕ) (t : BeginsText bits bit n) → octets_in 10 (drop bit bits) ≡ Ok (t.char, t.later ++ t.rest)
read_first bits bit n t = ap (λ (l : List Bool). octets_in 10 l) t.there ∙ octets_in-spelled 10 t.char t.first (t.later ++ t.rest) t.spelled.spelled

abbrev ok : ℕ × List Bool → Result (ℕ × List Bool) BitCause
ok p = Ok p

ok_is : (x y : ℕ × List Bool) → ok x ≡ ok y → x ≡ y
ok_is x y e = cc

ok_pair : (a b : ℕ) (x y : List Bool) (r : Result (ℕ × List Bool) BitCause) → r ≡ Ok (a, x) → r ≡ Ok (b, y) → (a ≡ b) × (x ≡ y)
ok_pair a b x y r p q =
    let same = ok_is (a, x) (b, y) (sym p ∙ q) in
    (ap (λ (z : ℕ × List Bool). z.0) same, ap (λ (z : ℕ × List Bool). z.1) same)

-- a text isn't refused at its first code point
pub text_not_refused : (bits : List Bool) (bit n : ℕ) (cause : BitCause) → 0 < n → IsSpan (text_of bits bit n) → RefusesChar (drop bit bits) cause → ⊥
text_not_refused bits bit n ShortInput some s r =
    let t = begins_text bits bit n some s in
    let p = read_first bits bit n t in
    let q = octets_in-refused 10 (drop bit bits) ShortInput r in
    absurd cc
text_not_refused bits bit n WiderInteger some s r =
    let t = begins_text bits bit n some s in
    let p = read_first bits bit n t in
    let q = octets_in-refused 10 (drop bit bits) WiderInteger r in
    absurd cc
text_not_refused bits bit n BadChar some s r =
    let t = begins_text bits bit n some s in
    let p = read_first bits bit n t in
    let no = r.2 in
    let q : octets_in 10 (drop bit bits) ≡ Ok (no.0, r.1) = ap (λ (l : List Bool). octets_in 10 l) r.3 ∙ octets_in-spelled 10 no.0 r.0 r.1 no.2 in
    let same = ok_pair t.char no.0 (t.later ++ t.rest) r.1 (octets_in 10 (drop bit bits)) p q in
    no.1 (subst (λ (c : ℕ). IsScalar c) same.0 t.spelled.scalar)

pub first_of_text : (bits : List Bool) (bit n m char : ℕ) → 0 < n → IsSpan (text_of bits bit n) → ItemAt (SpellsChar char) bits bit m → chars_in n (drop bit bits) ≡ char ∷ chars_in (n - 1) (drop (bit + m) bits)
unfolding chars_in first_char
first_of_text bits bit zero m char some s item = absurd (omega arith)
first_of_text bits bit (suc n) m char some s item =
    let read : octets_in 10 (drop bit bits) ≡ Ok (char, drop (bit + m) bits) =
    ap (λ (l : List Bool). octets_in 10 l) item.2.there ∙ octets_in-spelled 10 char item.0 (drop (bit + m) bits) item.1.spelled in
    let less : suc n - 1 ≡ n = omega arith in
    ap (λ (r : Result (ℕ × List Bool) BitCause). first_char (λ (l : List Bool). chars_in n l) r) read
    ∙ ap (λ (k : ℕ). char ∷ chars_in k (drop (bit + m) bits)) (sym less)

pub rest_of_text : (bits : List Bool) (bit n m char : ℕ) → 0 < n → IsSpan (text_of bits bit n) → ItemAt (SpellsChar char) bits bit m → IsSpan (text_of bits (bit + m) (n - 1))
rest_of_text bits bit n m char some s item =
    let t = begins_text bits bit n some s in
    let p = read_first bits bit n t in
    let q : octets_in 10 (drop bit bits) ≡ Ok (char, drop (bit + m) bits) =
    ap (λ (l : List Bool). octets_in 10 l) item.2.there ∙ octets_in-spelled 10 char item.0 (drop (bit + m) bits) item.1.spelled in
    let same = ok_pair t.char char (t.later ++ t.rest) (drop (bit + m) bits) (octets_in 10 (drop bit bits)) p q in
    let passed : bit + m ≤ length bits = omega (arith, s.1.within, ap length item.2.there, item.2.long, length-append item.0 (drop (bit + m) bits), length-drop bit bits) in
    (t.chars, record { within = passed; long = omega (arith, t.long); spelled = (t.later, t.rest, t.others, sym same.1) })

-- ---- bytes

by_bytes : (bits : List Bool) (bit n : ℕ) (items : List ℕ) → Holds (binary_of bits bit n) items → 8 * n ≤ length (drop bit bits)
by_bytes bits bit n items h =
    let b = h.spelled in
    let long = ap length b.3 in
    let spelled = ap length b.2.spelled in
    omega (arith, long, spelled, length-append b.0 b.1, length-bits_of items, h.long)

pub binary_long : (bits : List Bool) (bit n : ℕ) → IsSpan (binary_of bits bit n) → 8 * n ≤ length (drop bit bits)
binary_long bits bit n s = by_bytes bits bit n s.0 s.1

pub first_of_binary : (bits : List Bool) (bit n byte : ℕ) → 0 < n → byte < 256 → drop bit bits ≡ number_bits 8 byte ++ drop (bit + 8) bits → bytes_in n (drop bit bits) ≡ byte ∷ bytes_in (n - 1) (drop (bit + 8) bits)
unfolding bytes_in
first_of_binary bits bit zero byte some range there = absurd (omega arith)
first_of_binary bits bit (suc n) byte some range there =
    let less : suc n - 1 ≡ n = omega arith in
    let first : number_of (take 8 (drop bit bits)) ≡ byte =
    ap (λ (l : List Bool). number_of (take 8 l)) there
    ∙ ap number_of (take_at (number_bits 8 byte) (drop (bit + 8) bits) 8 (length-number_bits 8 byte))
    ∙ number_of-number_bits 8 byte range in
    ap (λ (k : ℕ). k ∷ bytes_in n (drop 8 (drop bit bits))) first
    ∙ ap (λ (l : List Bool). byte ∷ bytes_in n l) (drop-drop 8 bit bits)
    ∙ ap (λ (k : ℕ). byte ∷ bytes_in k (drop (bit + 8) bits)) (sym less)

pub rest_of_binary : (bits : List Bool) (bit n : ℕ) → 0 < n → bit ≤ length bits → IsSpan (binary_of bits bit n) → IsSpan (binary_of bits (bit + 8) (n - 1))
rest_of_binary bits bit n some within s =
    let left = binary_long bits bit n s in
    (bytes_in (n - 1) (drop (bit + 8) bits), binary_held bits (bit + 8) (n - 1) (omega (arith, left, length-drop bit bits)))

abbrev pub span_of : Bool → List Bool → ℕ → ℕ → Span
span_of text bits bit n = record { bits = bits; bit = bit; count = n; is_text = text }

pub as_kind : (a b : Bool) (bits : List Bool) (bit n : ℕ) → a ≡ b → IsSpan (span_of a bits bit n) → IsSpan (span_of b bits bit n)
as_kind a b bits bit n e s = subst (λ (k : Bool). IsSpan (span_of k bits bit n)) e s

none : (text : Bool) (bits : List Bool) → items_in text 0 bits ≡ []
unfolding chars_in bytes_in
none true bits = refl
none false bits = refl

pub items_none : (text : Bool) (n : ℕ) (bits : List Bool) → n ≡ 0 → items_in text n bits ≡ []
items_none text n bits e = ap (λ (k : ℕ). items_in text k bits) e ∙ none text bits
