-- What is above every smaller Multiplier.
use Rattle.std.proofs.Common.{ℕ, ◌*◌, ◌+◌, ◌^◌, ◌<◌, ◌≤◌, arith, lit<}
use Rattle.std.proofs.Math.Nat.{pow-le-pow_right}

-- watts that are too many for one Multiplier are too many for each smaller one
pub too_many_below : (watts j : ℕ) → 32768 * 10 ^ j ≤ watts → (k : ℕ) → k < j + 1 → 32768 * 10 ^ k ≤ watts
too_many_below watts j h k below =
    let q : k ≤ j = omega arith in
    let p : 10 ^ k ≤ 10 ^ j = pow-le-pow_right {n = 10} (lit< tt) q in
    omega (arith, h, p)
