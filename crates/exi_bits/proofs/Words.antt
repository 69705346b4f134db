-- A number that is written as one word of eight bytes.
use Rattle.std.proofs.Common.{◌≡◌, ℕ, zero, suc, ◌+◌, ◌-◌, ◌*◌, ◌/◌, ◌%◌, ◌^◌, ◌<◌, ◌≤◌, Bool, true, false, cond, eqb, List, [], ◌∷◌, ◌++◌, length, get_or, take, drop, set, bit_or, refl, sym, ap, subst, ◌∙◌, arith, append_assoc}
use Rattle.std.proofs.lemmas.List.{length-append, take_at, take-take, take-append-drop, length-take-le, get_or-take, get_or-append_right}
use Rattle.std.proofs.lemmas.Nat.{pow_pos, pow-add, shr_below, shl_below, shl_whole, mul-add-lt}
use Rattle.std.proofs.Math.Seq.{take-add}
use Rattle.std.proofs.Math.Nat.{mul_assoc}
use Rattle.exi_spec.specs.Bits.{number_bits, bits_of}
use Rattle.exi_spec.proofs.BitLaws.{length-number_bits, length-bits_of}
use Rattle.exi_bits.specs.Written.{PadsZero, Extends}
use Rattle.exi_bits.proofs.Pushed.{IsPart, IsBegun, part_pushed}
use Rattle.exi_bits.proofs.Parts.{WroteParts, no_part, one_part_more, all_parts}
use Rattle.exi_bits.proofs.Windows.{number_bits-join, number_bits-mod, part_there}

-- ---- whole bytes

whole_byte : (room : List ℕ) (first byte : ℕ) → first < length room → byte < 256 → Extends room (set room first byte) (8 * first) 8 (number_bits 8 byte)
whole_byte room first byte within range =
    let index : 8 * first / 8 ≡ first = omega arith in
    let part : IsPart room (8 * first) 8 byte 0 = record {
      some = omega arith;
      sum = omega arith;
      range = omega (arith, range);
      within = omega (arith, within);
      clean = λ k le lt. absurd (omega (arith, le, lt));
    } in
    let begun : IsBegun room (8 * first) 0 = record { fresh = λ _. refl; kept = λ broken. absurd (broken (omega arith)) } in
    let same : bit_or 0 (byte * 2 ^ 0) ≡ byte = omega arith in
    subst (λ (k : ℕ). Extends room (set room k byte) (8 * first) 8 (number_bits 8 byte)) index
    (subst (λ (v : ℕ). Extends room (set room (8 * first / 8) v) (8 * first) 8 (number_bits 8 byte)) same (part_pushed room (8 * first) 8 byte 0 0 part begun))

pub no_byte_put : (room : List ℕ) (first word : ℕ) → WroteParts room room (8 * first) 64 word 64
no_byte_put room first word = no_part room (8 * first) 64 word (λ k le lt. absurd (omega (arith, le, lt)))

pub byte_put : (old room : List ℕ) (first i word : ℕ) → i < 8 → first + i < length room → WroteParts old room (8 * first) 64 word (64 - 8 * i) → WroteParts old (set room (first + i) (word / 2 ^ (56 - 8 * i) % 256)) (8 * first) 64 word (64 - 8 * (i + 1))
byte_put old room first i word less within p =
    let place : 8 * (first + i) ≡ 8 * first + (64 - (64 - 8 * i)) = omega arith in
    let rest : 56 - 8 * i ≡ 64 - 8 * (i + 1) = omega arith in
    subst (λ (k : ℕ). WroteParts old (set room (first + i) (word / 2 ^ (56 - 8 * i) % 256)) (8 * first) 64 word k) rest
    (one_part_more old room (set room (first + i) (word / 2 ^ (56 - 8 * i) % 256)) (8 * first) 64 word (64 - 8 * i) 8 (56 - 8 * i) (omega arith) p
    (subst (λ (k : ℕ). Extends room (set room (first + i) (word / 2 ^ (56 - 8 * i) % 256)) k 8 (number_bits 8 (word / 2 ^ (56 - 8 * i) % 256))) place
    (whole_byte room (first + i) (word / 2 ^ (56 - 8 * i) % 256) within (omega arith))))

-- ---- a word in front of which the bits of a byte stay

-- the bits of the byte, the number and 0 behind it
abbrev pub word_of : ℕ → ℕ → ℕ → ℕ → ℕ
word_of byte shift value n = byte / 2 ^ (8 - shift) * 2 ^ (64 - shift) + value * 2 ^ (64 - shift - n)

module _ (byte shift value n : ℕ) (short : shift < 8) (one_word : shift + n ≤ 64) (byte_range : byte < 256) (range : value < 2 ^ n) where
  abbrev behind : ℕ
  behind = 64 - shift - n

  kept : byte / 2 ^ (8 - shift) < 2 ^ shift
  kept = shr_below byte shift (8 - shift) (subst (λ (k : ℕ). byte < 2 ^ k) (let e : 8 ≡ shift + (8 - shift) = omega (arith, short) in e) (let less : byte < 2 ^ 8 = omega (arith, byte_range) in less))

  pub value_fits : value * 2 ^ (64 - shift - n) < 2 ^ (64 - shift)
  value_fits = subst (λ (k : ℕ). value * 2 ^ (64 - shift - n) < 2 ^ k) (let e : n + (64 - shift - n) ≡ 64 - shift = omega (arith, one_word) in e) (shl_below value n (64 - shift - n) range)

  pub word_fits : word_of byte shift value n < 2 ^ 64
  word_fits =
      subst (λ (k : ℕ). word_of byte shift value n < k) (sym (pow-add 2 (64 - shift) shift) ∙ ap (λ (k : ℕ). 2 ^ k) (let e : 64 - shift + shift ≡ 64 = omega (arith, short) in e))
      (mul-add-lt (byte / 2 ^ (8 - shift)) (2 ^ (64 - shift)) (value * 2 ^ (64 - shift - n)) (2 ^ shift) kept value_fits)

  pub word_spelled : number_bits 64 (word_of byte shift value n) ≡ number_bits shift (byte / 2 ^ (8 - shift)) ++ (number_bits n value ++ number_bits (64 - shift - n) 0)
  word_spelled =
      ap (λ (k : ℕ). number_bits k (word_of byte shift value n)) (let e : 64 ≡ shift + (64 - shift) = omega (arith, short) in e)
      ∙ number_bits-join shift (64 - shift) (byte / 2 ^ (8 - shift)) (value * 2 ^ (64 - shift - n)) value_fits
      ∙ ap (λ (l : List Bool). number_bits shift (byte / 2 ^ (8 - shift)) ++ l)
      (ap (λ (k : ℕ). number_bits k (value * 2 ^ (64 - shift - n))) (let e : 64 - shift ≡ n + (64 - shift - n) = omega (arith, one_word) in e)
      ∙ ap (number_bits (n + (64 - shift - n))) (let e : value * 2 ^ (64 - shift - n) ≡ value * 2 ^ (64 - shift - n) + 0 = omega arith in e)
      ∙ number_bits-join n (64 - shift - n) value 0 (pow_pos (64 - shift - n)))

  -- as it is computed
  pub word_is : byte / 2 ^ (8 - shift) * 2 ^ (8 - shift) % 2 ^ 64 * 2 ^ 56 % 2 ^ 64 + value * 2 ^ (56 + (8 - shift) - n) % 2 ^ 64 ≡ word_of byte shift value n
  word_is =
      let high = byte / 2 ^ (8 - shift) in
      let moved : high * 2 ^ (8 - shift) % 2 ^ 64 ≡ high * 2 ^ (8 - shift) = shl_whole high shift (8 - shift) 64 kept (omega (arith, short)) in
      let few : high * 2 ^ (8 - shift) < 2 ^ 8 = subst (λ (k : ℕ). high * 2 ^ (8 - shift) < 2 ^ k) (let e : shift + (8 - shift) ≡ 8 = omega (arith, short) in e) (shl_below high shift (8 - shift) kept) in
      let up : high * 2 ^ (8 - shift) * 2 ^ 56 % 2 ^ 64 ≡ high * 2 ^ (8 - shift) * 2 ^ 56 = shl_whole (high * 2 ^ (8 - shift)) 8 56 64 few (omega arith) in
      let power : 2 ^ (8 - shift) * 2 ^ 56 ≡ 2 ^ (64 - shift) = sym (pow-add 2 (8 - shift) 56) ∙ ap (λ (k : ℕ). 2 ^ k) (let e : 8 - shift + 56 ≡ 64 - shift = omega (arith, short) in e) in
      let high_is : high * 2 ^ (8 - shift) * 2 ^ 56 ≡ high * 2 ^ (64 - shift) = mul_assoc high (2 ^ (8 - shift)) (2 ^ 56) ∙ ap (λ (k : ℕ). high * k) power in
      let low_is : value * 2 ^ (56 + (8 - shift) - n) % 2 ^ 64 ≡ value * 2 ^ (64 - shift - n) =
      ap (λ (k : ℕ). value * 2 ^ k % 2 ^ 64) (let e : 56 + (8 - shift) - n ≡ 64 - shift - n = omega (arith, short) in e)
      ∙ shl_whole value n (64 - shift - n) 64 range (omega (arith, one_word)) in
      ap (λ (k : ℕ). k * 2 ^ 56 % 2 ^ 64 + value * 2 ^ (56 + (8 - shift) - n) % 2 ^ 64) moved
      ∙ ap (λ (k : ℕ). k + value * 2 ^ (56 + (8 - shift) - n) % 2 ^ 64) (up ∙ high_is)
      ∙ ap (λ (k : ℕ). high * 2 ^ (64 - shift) + k) low_is

zero_bit : (n k : ℕ) → get_or (number_bits n 0) k false ≡ false
unfolding number_bits
zero_bit zero k = refl
zero_bit (suc n) zero = let none : 0 / 2 ^ n ≡ 0 = omega arith in ap (λ (q : ℕ). eqb (q % 2) 1) none
zero_bit (suc n) (suc k) = zero_bit n k

-- the first bits of a byte, behind all that stand before it
byte_kept : (old : List ℕ) (at : ℕ) → at / 8 + 8 ≤ length old → take at (bits_of old) ≡ take (8 * (at / 8)) (bits_of old) ++ number_bits (at % 8) (get_or old (at / 8) 0 / 2 ^ (8 - at % 8))
byte_kept old at within =
    let start = 8 * (at / 8) in
    let shift = at % 8 in
    let index : start / 8 ≡ at / 8 = omega arith in
    let at_is : at ≡ start + shift = omega arith in
    let there : drop start (bits_of old) ≡ number_bits shift (get_or old (at / 8) 0 / 2 ^ (8 - shift)) ++ drop (start + shift) (bits_of old) =
    part_there old start shift (8 - shift) (omega arith) (omega (arith, within))
    ∙ ap (λ (l : List Bool). l ++ drop (start + shift) (bits_of old)) (number_bits-mod shift (get_or old (start / 8) 0 / 2 ^ (8 - shift)))
    ∙ ap (λ (k : ℕ). number_bits shift (get_or old k 0 / 2 ^ (8 - shift)) ++ drop (start + shift) (bits_of old)) index in
    ap (λ (k : ℕ). take k (bits_of old)) at_is
    ∙ take-add start shift (bits_of old)
    ∙ ap (λ (l : List Bool). take start (bits_of old) ++ take shift l) there
    ∙ ap (λ (l : List Bool). take start (bits_of old) ++ l) (take_at (number_bits shift (get_or old (at / 8) 0 / 2 ^ (8 - shift))) (drop (start + shift) (bits_of old)) shift (length-number_bits shift (get_or old (at / 8) 0 / 2 ^ (8 - shift))))

-- of bits that are written those in front are written too, where the others are 0
module _ (old new : List ℕ) (at n start shift m : ℕ) (kept bits : List Bool) (at_is : at ≡ start + shift) (bits_long : length bits ≡ n) (kept_long : length kept ≡ shift)
    (there : take at (bits_of old) ≡ take start (bits_of old) ++ kept) (within : start ≤ length (bits_of old))
    (p : Extends old new start (shift + n + m) (kept ++ (bits ++ number_bits m 0))) (whole : (start + (shift + n + m)) % 8 ≡ 0) where
  all : take (start + (shift + n + m)) (bits_of new) ≡ (take at (bits_of old) ++ bits) ++ number_bits m 0
  all =
      p.wrote
      ∙ sym (append_assoc (take start (bits_of old)) kept (bits ++ number_bits m 0))
      ∙ ap (λ (l : List Bool). l ++ (bits ++ number_bits m 0)) (sym there)
      ∙ sym (append_assoc (take at (bits_of old)) bits (number_bits m 0))

  long : length (take at (bits_of old) ++ bits) ≡ at + n
  long = omega (arith, ap length there, length-append (take start (bits_of old)) kept, length-append (take at (bits_of old)) bits, length-take-le start (bits_of old) within, at_is, bits_long, kept_long)

  pub front_extends : Extends old new at n bits
  front_extends =
      record {
        long = bits_long;
        wrote =
            sym (take-take (at + n) (start + (shift + n + m)) (bits_of new) (omega (arith, at_is)))
            ∙ ap (take (at + n)) all
            ∙ take_at (take at (bits_of old) ++ bits) (number_bits m 0) (at + n) long;
        clean = λ k le lt.
            let inside : k < start + (shift + n + m) = omega (arith, le, lt, at_is, whole) in
            sym (get_or-take (start + (shift + n + m)) (bits_of new) k false inside)
            ∙ ap (λ (l : List Bool). get_or l k false) all
            ∙ get_or-append_right (take at (bits_of old) ++ bits) (number_bits m 0) (at + n) k false long le
            ∙ zero_bit m (k - (at + n));
      }

pub word_put : (old new : List ℕ) (at value n : ℕ) → at % 8 + n ≤ 64 → get_or old (at / 8) 0 < 256 → value < 2 ^ n → at / 8 + 8 ≤ length old → Extends old new (8 * (at / 8)) 64 (number_bits 64 (word_of (get_or old (at / 8) 0) (at % 8) value n)) → Extends old new at n (number_bits n value)
word_put old new at value n one_word byte_range range within p =
    let shift = at % 8 in
    let start = 8 * (at / 8) in
    let byte = get_or old (at / 8) 0 in
    let kept = number_bits shift (byte / 2 ^ (8 - shift)) in
    let short : at % 8 < 8 = omega arith in
    let sum : 64 ≡ shift + n + (64 - shift - n) = omega (arith, one_word) in
    let at_is : at ≡ start + shift = omega arith in
    front_extends old new at n start shift (64 - shift - n) kept (number_bits n value) at_is (length-number_bits n value) (length-number_bits shift (byte / 2 ^ (8 - shift)))
    (byte_kept old at within) (omega (arith, within, length-bits_of old))
    (subst (λ (k : ℕ). Extends old new start k (kept ++ (number_bits n value ++ number_bits (64 - shift - n) 0))) sum
    (subst (λ (l : List Bool). Extends old new start 64 l) (word_spelled byte shift value n short one_word byte_range range) p))
    (omega (arith, sum))
