-- Four octets as one number.
use Rattle.std.proofs.Common.{◌≡◌, ◌≢◌, ℕ, suc, ◌+◌, ◌-◌, ◌*◌, ◌/◌, ◌%◌, ◌^◌, ◌<◌, ◌≤◌, Bool, true, false, List, [], ◌∷◌, ◌++◌, length, nat_lt, get_or, take, drop, refl, sym, ap, subst, ◌∙◌, arith, append_assoc, w32}
use Rattle.std.specs.Int.{from_be_bytes}
use Rattle.std.proofs.lemmas.List.{drop_more, drop-drop, drop_at, append-nil}
use Rattle.std.proofs.Math.Seq.{take-add}
use Rattle.std.specs.Char.{IsScalar}
use Rattle.std.proofs.lemmas.Bool.{lt-ltb}
use Rattle.exi_spec.specs.Bits.{number_bits, bits_of}
use Rattle.exi_spec.specs.Items.{SpellsChar}
use Rattle.exi_spec.proofs.BitLaws.{length-number_bits}
use Rattle.exi_bits.specs.Lent.{IsSpan, items_in, four_octets, AreAscii}
use Rattle.exi_bits.specs.Reading.{ItemAt}
use Rattle.exi_bits.proofs.Items.{span_of, first_of_text, rest_of_text, first_of_binary, rest_of_binary}
use Rattle.exi_bits.proofs.Steps.{CharsAt, chars_more, item_first}
use Rattle.exi_bits.proofs.Penned.{bits_of-append, bits_of-one}
use Rattle.exi_bits.proofs.Windows.{number_bits-add, number_bits-mod, number_bits-join, IsWindow, window_there}

-- ---- as they are read

next_byte : (bytes : List ℕ) (n k m : ℕ) → k < length bytes → m ≡ k + 1 → take (suc n) (drop k bytes) ≡ get_or bytes k 0 ∷ take n (drop m bytes)
next_byte bytes n k m within is =
    ap (λ (l : List ℕ). take (suc n) l) (drop_more bytes k 0 within) ∙ ap (λ (i : ℕ). get_or bytes k 0 ∷ take n (drop i bytes)) (sym is)

four_bytes : (bytes : List ℕ) (k : ℕ) → k + 4 ≤ length bytes → take 4 (drop k bytes) ≡ get_or bytes k 0 ∷ get_or bytes (k + 1) 0 ∷ get_or bytes (k + 2) 0 ∷ get_or bytes (k + 3) 0 ∷ []
four_bytes bytes k within =
    next_byte bytes 3 k (k + 1) (omega (arith, within)) refl
    ∙ ap (λ (l : List ℕ). get_or bytes k 0 ∷ l) (next_byte bytes 2 (k + 1) (k + 2) (omega (arith, within)) (omega arith)
    ∙ ap (λ (l : List ℕ). get_or bytes (k + 1) 0 ∷ l) (next_byte bytes 1 (k + 2) (k + 3) (omega (arith, within)) (omega arith)
    ∙ ap (λ (l : List ℕ). get_or bytes (k + 2) 0 ∷ l) (next_byte bytes 0 (k + 3) (k + 4) (omega (arith, within)) (omega arith))))

abbrev AreOctets : List ℕ → Type 0
AreOctets bytes = (i : ℕ) → get_or bytes i 0 < 256

pub joined_four : (a b c d : ℕ) → b < 256 → c < 256 → d < 256 → number_bits 32 (((a * 2 ^ 8 + b) * 2 ^ 8 + c) * 2 ^ 8 + d) ≡ bits_of (a ∷ b ∷ c ∷ d ∷ [])
unfolding bits_of
joined_four a b c d b_range c_range d_range =
    let A = number_bits 8 a in
    let B = number_bits 8 b in
    let C = number_bits 8 c in
    let D = number_bits 8 d in
    number_bits-join 24 8 ((a * 2 ^ 8 + b) * 2 ^ 8 + c) d d_range
    ∙ ap (λ (l : List Bool). l ++ D) (number_bits-join 16 8 (a * 2 ^ 8 + b) c c_range ∙ ap (λ (l : List Bool). l ++ C) (number_bits-join 8 8 a b b_range))
    ∙ append_assoc (A ++ B) C D
    ∙ append_assoc A B (C ++ D)
    ∙ ap (λ (l : List Bool). A ++ (B ++ (C ++ l))) (sym (append-nil D))

word_spelled : (a b c d word : ℕ) → b < 256 → c < 256 → d < 256 → word ≡ from_be_bytes w32 (a ∷ b ∷ c ∷ d ∷ []) → number_bits 32 word ≡ bits_of (a ∷ b ∷ c ∷ d ∷ [])
word_spelled a b c d word b_range c_range d_range is =
    let computed : from_be_bytes w32 (a ∷ b ∷ c ∷ d ∷ []) ≡ a * 256 ^ 3 + b * 256 ^ 2 + c * 256 ^ 1 + d = refl in
    let sum : word ≡ ((a * 2 ^ 8 + b) * 2 ^ 8 + c) * 2 ^ 8 + d = omega (arith, is, computed) in
    ap (number_bits 32) sum ∙ joined_four a b c d b_range c_range d_range

-- the four bytes from an index on
abbrev pub four_from : List ℕ → ℕ → List ℕ
four_from bytes k = get_or bytes k 0 ∷ get_or bytes (k + 1) 0 ∷ get_or bytes (k + 2) 0 ∷ get_or bytes (k + 3) 0 ∷ []

window_of_four : (bytes : List ℕ) (k word : ℕ) → AreOctets bytes → k + 4 ≤ length bytes → word ≡ from_be_bytes w32 (four_from bytes k) → IsWindow bytes k 4 word
window_of_four bytes k word are within is =
    record {
      within = within;
      spelled = word_spelled (get_or bytes k 0) (get_or bytes (k + 1) 0) (get_or bytes (k + 2) 0) (get_or bytes (k + 3) 0) word (are (k + 1)) (are (k + 2)) (are (k + 3)) is ∙ ap bits_of (sym (four_bytes bytes k within));
    }

pub four_there : (bytes : List ℕ) (bit word : ℕ) → AreOctets bytes → bit % 8 ≡ 0 → bit + 32 ≤ 8 * length bytes → word ≡ from_be_bytes w32 (four_from bytes (bit / 8)) → drop bit (bits_of bytes) ≡ number_bits 32 word ++ drop (bit + 32) (bits_of bytes)
four_there bytes bit word are whole within is =
    let same : word / 2 ^ 0 ≡ word = omega arith in
    window_there bytes (bit / 8) 4 word bit 32 0 (window_of_four bytes (bit / 8) word are (omega (arith, within)) is) (omega arith) (omega (arith, whole))
    ∙ ap (λ (v : ℕ). number_bits 32 v ++ drop (bit + 32) (bits_of bytes)) same

-- four bytes and the next one
window_of_five : (bytes : List ℕ) (k word : ℕ) → AreOctets bytes → k + 5 ≤ length bytes → word ≡ from_be_bytes w32 (four_from bytes k) → IsWindow bytes k 5 (word * 2 ^ 8 + get_or bytes (k + 4) 0)
window_of_five bytes k word are within is =
    let four = window_of_four bytes k word are (omega (arith, within)) is in
    let last : take 1 (drop (k + 4) bytes) ≡ get_or bytes (k + 4) 0 ∷ [] = ap (λ (l : List ℕ). take 1 l) (drop_more bytes (k + 4) 0 (omega (arith, within))) in
    let all : take 5 (drop k bytes) ≡ take 4 (drop k bytes) ++ (get_or bytes (k + 4) 0 ∷ []) =
    take-add 4 1 (drop k bytes) ∙ ap (λ (l : List ℕ). take 4 (drop k bytes) ++ take 1 l) (drop-drop 4 k bytes) ∙ ap (λ (l : List ℕ). take 4 (drop k bytes) ++ l) last in
    record {
      within = within;
      spelled =
          number_bits-join 32 8 word (get_or bytes (k + 4) 0) (are (k + 4))
          ∙ ap (λ (l : List Bool). l ++ number_bits 8 (get_or bytes (k + 4) 0)) four.spelled
          ∙ ap (λ (l : List Bool). bits_of (take 4 (drop k bytes)) ++ l) (sym (bits_of-one (get_or bytes (k + 4) 0)))
          ∙ sym (bits_of-append (take 4 (drop k bytes)) (get_or bytes (k + 4) 0 ∷ []))
          ∙ ap bits_of (sym all);
    }

pub five_there : (bytes : List ℕ) (bit word : ℕ) → AreOctets bytes → bit % 8 ≢ 0 → bit + 32 ≤ 8 * length bytes → word ≡ from_be_bytes w32 (four_from bytes (bit / 8)) →
    drop bit (bits_of bytes) ≡ number_bits 32 ((256 * word + get_or bytes (bit / 8 + 4) 0) / 2 ^ (8 - bit % 8) % 2 ^ 32) ++ drop (bit + 32) (bits_of bytes)
five_there bytes bit word are broken within is =
    let five : word * 2 ^ 8 + get_or bytes (bit / 8 + 4) 0 ≡ 256 * word + get_or bytes (bit / 8 + 4) 0 = omega arith in
    window_there bytes (bit / 8) 5 (word * 2 ^ 8 + get_or bytes (bit / 8 + 4) 0) bit 32 (8 - bit % 8) (window_of_five bytes (bit / 8) word are (omega (arith, within, broken)) is) (omega arith) (omega arith)
    ∙ ap (λ (v : ℕ). number_bits 32 (v / 2 ^ (8 - bit % 8)) ++ drop (bit + 32) (bits_of bytes)) five
    ∙ ap (λ (l : List Bool). l ++ drop (bit + 32) (bits_of bytes)) (sym (number_bits-mod 32 ((256 * word + get_or bytes (bit / 8 + 4) 0) / 2 ^ (8 - bit % 8))))

-- ---- as items

-- one octet in front of others
first_octet : (m v bit next : ℕ) (bits : List Bool) → next ≡ bit + 8 → drop bit bits ≡ number_bits (8 + m) v ++ drop (next + m) bits →
    (drop bit bits ≡ number_bits 8 (v / 2 ^ m % 2 ^ 8) ++ drop (bit + 8) bits) × (drop next bits ≡ number_bits m v ++ drop (next + m) bits)
first_octet m v bit next bits is there =
    let rest = number_bits m v ++ drop (next + m) bits in
    let parts : drop bit bits ≡ number_bits 8 (v / 2 ^ m) ++ rest =
    there ∙ ap (λ (l : List Bool). l ++ drop (next + m) bits) (number_bits-add 8 m v) ∙ append_assoc (number_bits 8 (v / 2 ^ m)) (number_bits m v) (drop (next + m) bits) in
    let behind : drop (bit + 8) bits ≡ rest = sym (drop-drop 8 bit bits) ∙ ap (drop 8) parts ∙ drop_at (number_bits 8 (v / 2 ^ m)) rest 8 (length-number_bits 8 (v / 2 ^ m)) in (
      parts ∙ ap (λ (l : List Bool). number_bits 8 (v / 2 ^ m) ++ l) (sym behind) ∙ ap (λ (l : List Bool). l ++ drop (bit + 8) bits) (sym (number_bits-mod 8 (v / 2 ^ m))),
      ap (λ (k : ℕ). drop k bits) is ∙ behind,
    )

ascii_scalar : (v : ℕ) → v < 128 → IsScalar v
ascii_scalar v low = let less : nat_lt v 0xD800 ≡ true = lt-ltb v 0xD800 (omega (arith, low)) in rw less refl

ascii_char : (bits : List Bool) (bit v : ℕ) → v < 128 → drop bit bits ≡ number_bits 8 v ++ drop (bit + 8) bits → ItemAt (SpellsChar v) bits bit 8
ascii_char bits bit v low there =
    let item = item_first 10 v bit bits (omega arith) low there in
    (item.0, record { scalar = ascii_scalar v low; spelled = item.1 }, item.2)

-- one octet is one item
abbrev OneItem : Bool → List Bool → ℕ → ℕ → ℕ → Type 0
OneItem text bits bit n v =
    (items_in text n (drop bit bits) ≡ v ∷ items_in text (n - 1) (drop (bit + 8) bits)) × IsSpan (span_of text bits (bit + 8) (n - 1))

one_item : (text : Bool) (bits : List Bool) (bit n v : ℕ) → 0 < n → v < 256 → (text ≡ true → v < 128) → IsSpan (span_of text bits bit n) → drop bit bits ≡ number_bits 8 v ++ drop (bit + 8) bits → OneItem text bits bit n v
one_item true bits bit n v some range low span there =
    let char = ascii_char bits bit v (low refl) there in
    (first_of_text bits bit n 8 v some span char, rest_of_text bits bit n 8 v some span char)
one_item false bits bit n v some range low span there =
    (first_of_binary bits bit n v some range there, rest_of_binary bits bit n some span.1.within span)

-- four octets that stand there
record FourThere (bits : List Bool) (bit word : ℕ) : Type 0 where
  pub first : drop bit bits ≡ number_bits 8 (word / 2 ^ 24) ++ drop (bit + 8) bits
  pub second : drop (bit + 8) bits ≡ number_bits 8 (word / 2 ^ 16 % 2 ^ 8) ++ drop (bit + 8 + 8) bits
  pub third : drop (bit + 16) bits ≡ number_bits 8 (word / 2 ^ 8 % 2 ^ 8) ++ drop (bit + 16 + 8) bits
  pub fourth : drop (bit + 24) bits ≡ number_bits 8 (word % 2 ^ 8) ++ drop (bit + 24 + 8) bits

four_apart : (bits : List Bool) (bit word : ℕ) → word < 2 ^ 32 → drop bit bits ≡ number_bits 32 word ++ drop (bit + 32) bits → FourThere bits bit word
four_apart bits bit word range there =
    let places : bit + 32 ≡ bit + 8 + 24 = omega arith in
    let a = first_octet 24 word bit (bit + 8) bits refl (there ∙ ap (λ (k : ℕ). number_bits 32 word ++ drop k bits) places) in
    let b = first_octet 16 word (bit + 8) (bit + 16) bits (omega arith) (a.1 ∙ ap (λ (k : ℕ). number_bits 24 word ++ drop k bits) (let e : bit + 8 + 24 ≡ bit + 16 + 16 = omega arith in e)) in
    let c = first_octet 8 word (bit + 16) (bit + 24) bits (omega arith) (b.1 ∙ ap (λ (k : ℕ). number_bits 16 word ++ drop k bits) (let e : bit + 16 + 16 ≡ bit + 24 + 8 = omega arith in e)) in
    let high : word / 2 ^ 24 % 2 ^ 8 ≡ word / 2 ^ 24 = omega (arith, range) in
    record {
      first = a.0 ∙ ap (λ (v : ℕ). number_bits 8 v ++ drop (bit + 8) bits) high;
      second = b.0;
      third = c.0;
      fourth = c.1 ∙ ap (λ (l : List Bool). l ++ drop (bit + 24 + 8) bits) (sym (number_bits-mod 8 word));
    }

moved : (text : Bool) (bits : List Bool) (bit place n m : ℕ) → bit ≡ place → n ≡ m → IsSpan (span_of text bits bit n) → IsSpan (span_of text bits place m)
moved text bits bit place n m at count s = subst (λ (k : ℕ). IsSpan (span_of text bits place k)) count (subst (λ (k : ℕ). IsSpan (span_of text bits k n)) at s)

same_items : (text : Bool) (bits : List Bool) (bit place n m : ℕ) → bit ≡ place → n ≡ m → items_in text n (drop bit bits) ≡ items_in text m (drop place bits)
same_items text bits bit place n m at count = ap (λ (k : ℕ). items_in text k (drop bit bits)) count ∙ ap (λ (k : ℕ). items_in text m (drop k bits)) at

abbrev FourItems : Bool → List Bool → ℕ → ℕ → ℕ → Type 0
FourItems text bits bit n word =
    (items_in text n (drop bit bits) ≡ four_octets word ++ items_in text (n - 4) (drop (bit + 32) bits)) × IsSpan (span_of text bits (bit + 32) (n - 4))

pub four_items : (text : Bool) (bits : List Bool) (bit n word : ℕ) → 4 ≤ n → word < 2 ^ 32 → (text ≡ true → AreAscii (four_octets word)) → IsSpan (span_of text bits bit n) →
    drop bit bits ≡ number_bits 32 word ++ drop (bit + 32) bits → FourItems text bits bit n word
four_items text bits bit n word some range low span there =
    let f = four_apart bits bit word range there in
    let one = one_item text bits bit n (word / 2 ^ 24) (omega (arith, some)) (omega (arith, range)) (λ t. (low t).0) span f.first in
    let two = one_item text bits (bit + 8) (n - 1) (word / 2 ^ 16 % 2 ^ 8) (omega (arith, some)) (omega arith) (λ t. (low t).1.0) one.1 f.second in
    let at_two : bit + 8 + 8 ≡ bit + 16 = omega arith in
    let two_span = moved text bits _ (bit + 16) _ (n - 2) at_two (omega (arith, some)) two.1 in
    let three = one_item text bits (bit + 16) (n - 2) (word / 2 ^ 8 % 2 ^ 8) (omega (arith, some)) (omega arith) (λ t. (low t).1.1.0) two_span f.third in
    let three_span = moved text bits _ (bit + 24) _ (n - 3) (omega arith) (omega (arith, some)) three.1 in
    let four = one_item text bits (bit + 24) (n - 3) (word % 2 ^ 8) (omega (arith, some)) (omega arith) (λ t. (low t).1.1.1.0) three_span f.fourth in (
      one.0
          ∙ ap (λ (l : List ℕ). word / 2 ^ 24 ∷ l)
          (two.0
          ∙ ap (λ (l : List ℕ). word / 2 ^ 16 % 2 ^ 8 ∷ l)
          (same_items text bits _ (bit + 16) _ (n - 2) at_two (omega (arith, some))
          ∙ three.0
          ∙ ap (λ (l : List ℕ). word / 2 ^ 8 % 2 ^ 8 ∷ l)
          (same_items text bits _ (bit + 24) _ (n - 3) (omega arith) (omega (arith, some))
          ∙ four.0
          ∙ ap (λ (l : List ℕ). word % 2 ^ 8 ∷ l) (same_items text bits _ (bit + 32) _ (n - 4) (omega arith) (omega (arith, some)))))),
      moved text bits _ (bit + 32) _ (n - 4) (omega arith) (omega (arith, some)) four.1,
    )

-- ---- code points behind others

one_char_more : (bits : List Bool) (bit n found v place : ℕ) → place ≡ bit + found → v < 128 → drop place bits ≡ number_bits 8 v ++ drop (place + 8) bits → CharsAt bits bit n found → CharsAt bits bit (n + 1) (found + 8)
one_char_more bits bit n found v place at low there chars =
    chars_more bits bit n found v 8 chars (subst (λ (k : ℕ). ItemAt (SpellsChar v) bits k 8) at (ascii_char bits place v low there))

pub four_chars_more : (bits : List Bool) (bit count word : ℕ) → word < 2 ^ 32 → AreAscii (four_octets word) → drop (bit + 8 * count) bits ≡ number_bits 32 word ++ drop (bit + 8 * count + 32) bits → CharsAt bits bit count (8 * count) → CharsAt bits bit (count + 4) (8 * (count + 4))
four_chars_more bits bit count word range ascii there chars =
    let found = 8 * count in
    let f = four_apart bits (bit + found) word range there in
    let one = one_char_more bits bit count found (word / 2 ^ 24) (bit + found) refl ascii.0 f.first chars in
    let two = one_char_more bits bit (count + 1) (found + 8) (word / 2 ^ 16 % 2 ^ 8) (bit + found + 8) (omega arith) ascii.1.0 f.second one in
    let three = one_char_more bits bit (count + 1 + 1) (found + 8 + 8) (word / 2 ^ 8 % 2 ^ 8) (bit + found + 16) (omega arith) ascii.1.1.0 f.third two in
    let four = one_char_more bits bit (count + 1 + 1 + 1) (found + 8 + 8 + 8) (word % 2 ^ 8) (bit + found + 24) (omega arith) ascii.1.1.1.0 f.fourth three in
    subst (λ (k : ℕ). CharsAt bits bit k (8 * (count + 4))) (let e : count + 1 + 1 + 1 + 1 ≡ count + 4 = omega arith in e)
    (subst (λ (k : ℕ). CharsAt bits bit (count + 1 + 1 + 1 + 1) k) (let e : found + 8 + 8 + 8 + 8 ≡ 8 * (count + 4) = omega arith in e) four)

pub no_char_yet : (bits : List Bool) (bit : ℕ) → CharsAt bits bit 0 (8 * 0)
no_char_yet bits bit = ([], refl, ([], refl, record { long = refl; there = ap (λ (k : ℕ). drop k bits) (let e : bit ≡ bit + 0 = omega arith in e) }))
