-- Numbers at a place of bits.
use Rattle.std.proofs.Common.{◌≡◌, ℕ, suc, ◌+◌, ◌-◌, ◌*◌, ◌/◌, ◌%◌, ◌^◌, ◌<◌, ◌≤◌, Bool, false, eqb, List, ◌∷◌, length, get_or, take, drop, sym, ap, ◌∙◌, arith, bit_and}
use Rattle.std.proofs.Math.Nat.{pow-suc, pow-le-pow_right}
use Rattle.std.proofs.lemmas.List.{drop_more, length-take}
use Rattle.std.proofs.lemmas.Nat.Bits.{shr_and_one}
use Rattle.exi_spec.specs.Bits.{number_of, bits_of}
use Rattle.exi_spec.proofs.BitLaws.{length-bits_of, get_or-bits_of, number_of-lt}

-- the bit at a place is one of the byte there
pub drop-bits_of : (bytes : List ℕ) (p : ℕ) → p < 8 * length bytes → drop p (bits_of bytes) ≡ eqb (bit_and (get_or bytes (p / 8) 0 / 2 ^ (7 - p % 8)) 1) 1 ∷ drop (p + 1) (bits_of bytes)
drop-bits_of bytes p h =
    let place : 8 * (p / 8) + p % 8 ≡ p = omega arith in
    let here : get_or (bits_of bytes) p false ≡ eqb (get_or bytes (p / 8) 0 / 2 ^ (7 - p % 8) % 2) 1 =
    ap (λ (k : ℕ). get_or (bits_of bytes) k false) (sym place)
    ∙ get_or-bits_of bytes (p / 8) (p % 8) false (omega arith) (omega arith) in
    let and_one : get_or bytes (p / 8) 0 / 2 ^ (7 - p % 8) % 2 ≡ bit_and (get_or bytes (p / 8) 0 / 2 ^ (7 - p % 8)) 1 =
    sym (shr_and_one (get_or bytes (p / 8) 0) (7 - p % 8)) in
    drop_more (bits_of bytes) p false (omega (arith, length-bits_of bytes))
    ∙ ap (λ (b : Bool). b ∷ drop (p + 1) (bits_of bytes)) (here ∙ ap (λ (n : ℕ). eqb n 1) and_one)

pub number_of_take-lt : (i : ℕ) (bits : List Bool) → number_of (take i bits) < 2 ^ i
number_of_take-lt i bits =
    let shorter : 2 ^ length (take i bits) ≤ 2 ^ i = pow-le-pow_right {n = 2} (omega arith) (omega (arith, length-take i bits)) in
    omega (arith, number_of-lt (take i bits), shorter)

pub doubled_fits : (i n value : ℕ) → i < n → n ≤ 32 → value < 2 ^ i → 2 * value + 1 < 2 ^ 32
doubled_fits i n value h m v =
    let double : 2 ^ suc i ≡ 2 ^ i * 2 = pow-suc 2 i in
    let up : suc i ≤ 32 = omega arith in
    let within : 2 ^ suc i ≤ 2 ^ 32 = pow-le-pow_right {n = 2} (omega arith) {i = suc i} {j = 32} up in
    omega (arith, double, within)
