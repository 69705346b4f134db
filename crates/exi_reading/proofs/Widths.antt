-- Widths of codes.
use Rattle.std.proofs.Common.{◌≡◌, ℕ, suc, ◌+◌, ◌-◌, ◌*◌, ◌^◌, ◌<◌, ◌≤◌, arith, inl, inr, subst, sym}
use Rattle.std.specs.Int.Count.{count_leading_zeros}
use Rattle.std.proofs.lemmas.Nat.{leading_length, pow_pos}
use Rattle.exi_values.specs.Texts.{IsIndexWidth}
use Rattle.std.proofs.Math.Nat.{pow-suc}
use Rattle.std.proofs.Math.Pow.{pow_mono}
use Rattle.std.proofs.lemmas.Bool.Decides.{leb_tells}

pub pow_below : (a b : ℕ) → 2 ^ a < 2 ^ b → a < b
pow_below a b less =
    elim (leb_tells (suc a) b) [
      | inl is ↦ omega (arith, is.1)
      | inr is ↦ let big : 2 ^ b ≤ 2 ^ a = pow_mono (omega (arith, is.1)) in absurd (omega (arith, less, big))
    ]

pub pow_next : (w : ℕ) → 2 ^ (w + 1) ≡ 2 ^ w * 2
pow_next w = let e : w + 1 ≡ suc w = omega arith in rw e (pow-suc 2 w)

-- the least width of an index, off the zeros before the highest digit of the greatest index
pub told_width : (n : ℕ) → n < 2 ^ 32 → IsIndexWidth n (32 - count_leading_zeros 32 (n - 1))
told_width n fits =
    let t = leading_length 32 (n - 1) (omega (arith, fits)) in
    let m = t.0 in
    let sum : count_leading_zeros 32 (n - 1) + m ≡ 32 = t.1 in
    let here : 32 - count_leading_zeros 32 (n - 1) ≡ m = omega (arith, sum) in
    let low : n - 1 < 2 ^ m = t.2 in
    let high : 2 ^ m ≤ 2 * (n - 1) + 1 = t.3 in
    let width : IsIndexWidth n m = record {
      enough = omega (arith, low);
      least = λ w enough. let next = pow_next w in let some = pow_pos w in let up : m < w + 1 = pow_below m (w + 1) (omega (arith, high, enough, next, some)) in omega (arith, up);
    } in
    subst (λ (k : ℕ). IsIndexWidth n k) (sym here) width
