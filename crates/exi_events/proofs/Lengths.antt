-- How many bits the shortest spelling of an integer of few octets has, and that a word lacks room for them.
use Rattle.std.proofs.Common.{◌≡◌, ℕ, suc, ◌+◌, ◌/◌, ◌%◌, ◌<◌, ◌≤◌, Bool, true, List, ◌++◌, length, sym, ap, ◌∙◌, arith, ℤ, pos, negsuc, if◌then◌else◌, inl, inr}
use Rattle.std.proofs.lemmas.Bool.{cases_lt}
use Rattle.std.proofs.lemmas.List.{length-append}
use Rattle.exi_spec.specs.Bits.{number_bits}
use Rattle.exi_spec.specs.Items.{octet, shortest_within, shortest_unsigned, shortest_integer}
use Rattle.exi_spec.proofs.BitLaws.{length-number_bits}
use Rattle.exi_bits.proofs.Shortest.{shortest_low, shortest_long}
use Rattle.exi_events.proofs.Words.{octets_high, signed_is}

low_long : (more v : ℕ) → v < 128 → length (shortest_within more v) ≡ 8
low_long more v low = ap length (shortest_low more v low) ∙ ap suc (length-number_bits 7 v)

high_long : (more v : ℕ) → 128 ≤ v → length (shortest_within (suc more) v) ≡ 8 + length (shortest_within more (v / 128))
high_long more v high =
    omega (arith, ap length (octets_high more v high), length-append (octet true (v % 128)) (shortest_within more (v / 128)), length-number_bits 7 (v % 128))

pub one_long : (v : ℕ) → v < 128 → length (shortest_unsigned v) ≡ 8
one_long v low = low_long 9 v low

two_long : (v : ℕ) → 128 ≤ v → v < 16384 → length (shortest_unsigned v) ≡ 16
two_long v high low = omega (arith, high_long 8 v high, low_long 8 (v / 128) (omega (arith, low)))

three_long : (v : ℕ) → 16384 ≤ v → v < 2097152 → length (shortest_unsigned v) ≡ 24
three_long v high low =
    omega (arith, high_long 8 v (omega (arith, high)), high_long 7 (v / 128) (omega (arith, high)), low_long 7 (v / 128 / 128) (omega (arith, low)))

pub more_long : (v : ℕ) → 2097152 ≤ v → 32 ≤ length (shortest_unsigned v)
more_long v high =
    omega (arith, high_long 8 v (omega (arith, high)), high_long 7 (v / 128) (omega (arith, high)), high_long 6 (v / 128 / 128) (omega (arith, high)), shortest_long 6 (v / 128 / 128 / 128))

pub joined_long : (old new bits : List Bool) → new ≡ old ++ bits → length new ≡ length old + length bits
joined_long old new bits is = ap length is ∙ length-append old bits

pub bits_long : (old new : List Bool) (n v : ℕ) → new ≡ old ++ number_bits n v → length new ≡ length old + n
bits_long old new n v is = omega (arith, joined_long old new (number_bits n v) is, length-number_bits n v)

-- more than three octets have more than 25 bits
pub octets_few : (v : ℕ) → length (shortest_unsigned v) ≤ 25 → length (shortest_unsigned v) ≤ 24
octets_few v few =
    elim (cases_lt v 128) [
      | inl low ↦ omega (arith, one_long v low)
      | inr high ↦ elim (cases_lt v 16384) [
        | inl low ↦ omega (arith, two_long v high low)
        | inr higher ↦ elim (cases_lt v 2097152) [
          | inl low ↦ omega (arith, three_long v higher low)
          | inr highest ↦ omega (arith, few, more_long v highest)
        ]
      ]
    ]

pub unsigned_full : (held bits : List Bool) (v : ℕ) → bits ≡ shortest_unsigned v → length bits ≤ 25 → (length (shortest_unsigned v) ≤ 24 → 64 < length held + length (shortest_unsigned v)) → 64 < length held + length bits
unsigned_full held bits v is few full =
    let long = ap length is in
    omega (arith, long, full (octets_few v (omega (arith, long, few))))

-- ---- an octet that finds no room

pub one_full : (old : List Bool) (v : ℕ) → v < 128 → 64 < length old + 8 → 64 < length old + length (shortest_unsigned v)
one_full old v low full = omega (arith, full, one_long v low)

pub first_of_two : (old : List Bool) (v : ℕ) → 128 ≤ v → v < 16384 → 64 < length old + 8 → 64 < length old + length (shortest_unsigned v)
first_of_two old v high low full = omega (arith, full, two_long v high low)

pushed_long : (old mid : List Bool) (v : ℕ) → mid ≡ old ++ number_bits 8 v → length mid ≡ length old + 8
pushed_long old mid v is = omega (arith, ap length is, length-append old (number_bits 8 v), length-number_bits 8 v)

pub second_of_two : (old mid : List Bool) (first v : ℕ) → 128 ≤ v → v < 16384 → mid ≡ old ++ number_bits 8 first → 64 < length mid + 8 → 64 < length old + length (shortest_unsigned v)
second_of_two old mid first v high low is full = omega (arith, full, pushed_long old mid first is, two_long v high low)

pub first_of_three : (old : List Bool) (v : ℕ) → 16384 ≤ v → v < 2097152 → 64 < length old + 8 → 64 < length old + length (shortest_unsigned v)
first_of_three old v high low full = omega (arith, full, three_long v high low)

pub second_of_three : (old mid : List Bool) (first v : ℕ) → 16384 ≤ v → v < 2097152 → mid ≡ old ++ number_bits 8 first → 64 < length mid + 8 → 64 < length old + length (shortest_unsigned v)
second_of_three old mid first v high low is full = omega (arith, full, pushed_long old mid first is, three_long v high low)

pub third_of_three : (old one two : List Bool) (first second v : ℕ) → 16384 ≤ v → v < 2097152 → one ≡ old ++ number_bits 8 first → two ≡ one ++ number_bits 8 second → 64 < length two + 8 → 64 < length old + length (shortest_unsigned v)
third_of_three old one two first second v high low is more full = omega (arith, full, pushed_long old one first is, pushed_long one two second more, three_long v high low)

-- ---- a sign

pub signed_long : (negative : Bool) (n : ℕ) (v : ℤ) → v ≡ (if negative then negsuc n else pos n) → length (shortest_integer v) ≡ suc (length (shortest_unsigned n))
signed_long negative n v is = ap (λ (z : ℤ). length (shortest_integer z)) is ∙ ap length (sym (signed_is negative n))

pub sign_full : (old : List Bool) (negative : Bool) (n : ℕ) (v : ℤ) → v ≡ (if negative then negsuc n else pos n) → 64 < length old + 1 → 64 < length old + length (shortest_integer v)
sign_full old negative n v is full = omega (arith, full, signed_long negative n v is)

pub magnitude_full : (old mid : List Bool) (negative : Bool) (sign n : ℕ) (v : ℤ) → v ≡ (if negative then negsuc n else pos n) → mid ≡ old ++ number_bits 1 sign →
    (length (shortest_unsigned n) ≤ 24 → 64 < length mid + length (shortest_unsigned n)) → length (shortest_integer v) ≤ 25 → 64 < length old + length (shortest_integer v)
magnitude_full old mid negative sign n v is first full few =
    let long = signed_long negative n v is in
    omega (arith, long, full (omega (arith, long, few)), ap length first, length-append old (number_bits 1 sign), length-number_bits 1 sign)
