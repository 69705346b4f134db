-- The items of a text or a Binary, put one part after the other.
use Rattle.std.proofs.Common.{◌≡◌, ℕ, zero, suc, ◌+◌, ◌*◌, ◌/◌, ◌%◌, ◌^◌, ◌<◌, ◌≤◌, Bool, List, [], ◌∷◌, ◌++◌, length, true, inl, inr, refl, sym, ap, subst, ◌∙◌, arith, append_assoc}
use Rattle.std.specs.List.{AllByRecursion}
use Rattle.std.proofs.lemmas.List.{length-append, append-nil}
use Rattle.exi_spec.specs.Bits.{number_bits, bits_of}
use Rattle.exi_spec.specs.Items.{octet, shortest_within, shortest_unsigned, shortest_chars}
use Rattle.exi_spec.proofs.BitLaws.{length-number_bits, length-bits_of}
use Rattle.exi_bits.specs.Lent.{four_octets, AreAscii}
use Rattle.exi_bits.specs.Written.{PadsZero, Extends, PutsFront}
use Rattle.exi_bits.proofs.Pushed.{extended}
use Rattle.std.proofs.lemmas.Bool.{cases_lt}
use Rattle.exi_bits.proofs.Shortest.{put_none, one_octet, shortest_low, shortest_high}
use Rattle.exi_bits.proofs.Penned.{bits_of-append}
use Rattle.exi_bits.proofs.Fours.{joined_four}

-- each item is spelled by itself
abbrev pub Joins : (List ℕ → List Bool) → Type 0
Joins spell = (xs ys : List ℕ) → spell (xs ++ ys) ≡ spell xs ++ spell ys

pub chars_join : Joins shortest_chars
chars_join [] ys = refl
chars_join (x ∷ xs) ys =
    ap (λ (l : List Bool). shortest_unsigned x ++ l) (chars_join xs ys) ∙ sym (append_assoc (shortest_unsigned x) (shortest_chars xs) (shortest_chars ys))

pub bytes_join : Joins bits_of
bytes_join = bits_of-append

pub none_put : (spell : List ℕ → List Bool) (room : List ℕ) (at : ℕ) (items : List ℕ) → spell [] ≡ [] → PadsZero room at → PutsFront spell room room at 0 items items
none_put spell room at items none clean =
    record { front = []; split = refl; wrote = subst (λ (l : List Bool). Extends room room at 0 l) (sym none) (put_none room at clean) }

pub part_put : (spell : List ℕ → List Bool) (old mid new : List ℕ) (at n m : ℕ) (items left part rest : List ℕ) → Joins spell → left ≡ part ++ rest → PutsFront spell old mid at n items left → Extends mid new (at + n) m (spell part) → PutsFront spell old new at (n + m) items rest
part_put spell old mid new at n m items left part rest joins is p q =
    record {
      front = p.front ++ part;
      split = p.split ∙ ap (λ (l : List ℕ). p.front ++ l) is ∙ sym (append_assoc p.front part rest);
      wrote = subst (λ (l : List Bool). Extends old new at (n + m) l) (sym (joins p.front part)) (extended old mid new at n m (spell p.front) (spell part) p.wrote q);
    }

pub all_put : (spell : List ℕ → List Bool) (old new : List ℕ) (at n : ℕ) (items left : List ℕ) → left ≡ [] → PutsFront spell old new at n items left → Extends old new at n (spell items)
all_put spell old new at n items left is p =
    let all : p.front ≡ items = sym (p.split ∙ ap (λ (l : List ℕ). p.front ++ l) is ∙ append-nil p.front) in
    subst (λ (l : List ℕ). Extends old new at n (spell l)) all p.wrote

pub both_put : (spell : List ℕ → List Bool) (old mid new : List ℕ) (at n m : ℕ) (items left : List ℕ) → Joins spell → PutsFront spell old mid at n items left → Extends mid new (at + n) m (spell left) → Extends old new at (n + m) (spell items)
both_put spell old mid new at n m items left joins p q =
    all_put spell old new at (n + m) items [] refl (part_put spell old mid new at n m items left left [] joins (sym (append-nil left)) p q)

-- how many bits are left
pub bits_behind : (spell : List ℕ → List Bool) (old new : List ℕ) (at n : ℕ) (items left : List ℕ) → Joins spell → PutsFront spell old new at n items left → n + length (spell left) ≡ length (spell items)
bits_behind spell old new at n items left joins p =
    omega (arith, ap length (ap spell p.split ∙ joins p.front left), length-append (spell p.front) (spell left), p.wrote.long)

pub part_long : (spell : List ℕ → List Bool) (left part rest : List ℕ) → Joins spell → left ≡ part ++ rest → length (spell left) ≡ length (spell part) + length (spell rest)
part_long spell left part rest joins is = ap length (ap spell is ∙ joins part rest) ∙ length-append (spell part) (spell rest)

all_behind : (front left : List ℕ) → AllByRecursion (λ byte. byte < 256) (front ++ left) → AllByRecursion (λ byte. byte < 256) left
all_behind [] left all = all
all_behind (item ∷ front) left all = all_behind front left all.1

pub range_behind : (old new : List ℕ) (at n : ℕ) (items left : List ℕ) → AllByRecursion (λ byte. byte < 256) items → PutsFront bits_of old new at n items left → AllByRecursion (λ byte. byte < 256) left
range_behind old new at n items left all p = all_behind p.front left (subst (λ (l : List ℕ). AllByRecursion (λ byte. byte < 256) l) p.split all)

-- ---- four at once

pub four_spelled : (word : ℕ) → word < 2 ^ 32 → number_bits 32 word ≡ bits_of (four_octets word)
four_spelled word range =
    let sum : word ≡ ((word / 2 ^ 24 * 2 ^ 8 + word / 2 ^ 16 % 2 ^ 8) * 2 ^ 8 + word / 2 ^ 8 % 2 ^ 8) * 2 ^ 8 + word % 2 ^ 8 = omega arith in
    ap (number_bits 32) sum ∙ joined_four (word / 2 ^ 24) (word / 2 ^ 16 % 2 ^ 8) (word / 2 ^ 8 % 2 ^ 8) (word % 2 ^ 8) (omega arith) (omega arith) (omega arith)

pub ascii_spelled : (items : List ℕ) → AreAscii items → shortest_chars items ≡ bits_of items
unfolding bits_of
ascii_spelled [] all = refl
ascii_spelled (item ∷ items) all =
    ap (λ (l : List Bool). l ++ shortest_chars items) (sym (one_octet item all.0)) ∙ ap (λ (l : List Bool). number_bits 8 item ++ l) (ascii_spelled items all.1)

pub no_bytes : bits_of [] ≡ []
unfolding bits_of
no_bytes = refl

-- ---- a bound

within_octets : (more v : ℕ) → length (shortest_within more v) ≤ 8 * suc more
unfolding shortest_within
within_octets zero v = omega (arith, length-number_bits 7 v)
within_octets (suc more) v =
    elim (cases_lt v 128) [
      | inl low ↦ let e = ap length (shortest_low (suc more) v low) in omega (arith, e, length-number_bits 7 v)
      | inr high ↦ let e = ap length (shortest_high more v high) in omega (arith, e, length-append (octet true (v % 128)) (shortest_within more (v / 128)), length-number_bits 7 (v % 128), within_octets more (v / 128))
    ]

pub few_bits : (items : List ℕ) → length (shortest_chars items) ≤ 80 * length items
few_bits [] = omega arith
few_bits (item ∷ items) = omega (arith, length-append (shortest_unsigned item) (shortest_chars items), within_octets 9 item, few_bits items)

-- ---- what has room

pub part_room : (spell : List ℕ → List Bool) (old mid : List ℕ) (at n most : ℕ) (items left part rest : List ℕ) → Joins spell → left ≡ part ++ rest → at + length (spell items) ≤ most → PutsFront spell old mid at n items left → at + n + length (spell part) ≤ most
part_room spell old mid at n most items left part rest joins is within p =
    omega (arith, within, bits_behind spell old mid at n items left joins p, part_long spell left part rest joins is)

pub left_room : (spell : List ℕ → List Bool) (old mid : List ℕ) (at n most : ℕ) (items left : List ℕ) → Joins spell → at + length (spell items) ≤ most → PutsFront spell old mid at n items left → at + n + length (spell left) ≤ most
left_room spell old mid at n most items left joins within p = omega (arith, within, bits_behind spell old mid at n items left joins p)

pub bytes_within : (at most : ℕ) (bytes : List ℕ) → at + 8 * length bytes ≤ most → at + length (bits_of bytes) ≤ most
bytes_within at most bytes within = omega (arith, within, length-bits_of bytes)

pub four_long : (word : ℕ) → length (bits_of (four_octets word)) ≡ 32
four_long word = length-bits_of (four_octets word)

pub ascii_long : (word : ℕ) → AreAscii (four_octets word) → length (shortest_chars (four_octets word)) ≡ 32
ascii_long word ascii = ap length (ascii_spelled (four_octets word) ascii) ∙ four_long word

pub char_spelled : (x char : ℕ) → x ≡ char → shortest_unsigned x ≡ shortest_chars (char ∷ [])
char_spelled x char is = ap shortest_unsigned is ∙ sym (append-nil (shortest_unsigned char))
