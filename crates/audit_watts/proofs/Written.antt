-- There is one way to write watts.
use Rattle.std.proofs.Common.{◌≡◌, ◌↔◌, ℕ, ◌+◌, ◌*◌, ◌^◌, ◌<◌, ◌≤◌, Bool, pos, subst, ◌∙◌, arith}
use Rattle.std.specs.Prelude.{IsTrue}
use Rattle.std.proofs.Math.Nat.{mul-le-mul_left}
use Rattle.session_words.specs.Amounts.{IsPartsOf, IsWrittenWatts}
use Rattle.told_pasts.specs.Spelling.{Written, Writes}

no_less : (told m v n w : ℕ) → IsWrittenWatts told m v → IsWrittenWatts told n w → m < n → ⊥
no_less told m v n w h g below =
    let most : told < 10 ^ m * (v + 1) = h.value_is.most in
    let fits : 10 ^ m * (v + 1) ≤ 10 ^ m * 32768 = mul-le-mul_left (10 ^ m) (omega (arith, h.fits)) in
    let least : 32768 * 10 ^ m ≤ told = g.least m below in
    omega (arith, most, fits, least)

same_multiplier : (told m v n w : ℕ) → IsWrittenWatts told m v → IsWrittenWatts told n w → m ≡ n
same_multiplier told m v n w h g =
    let a : m < n → ⊥ = no_less told m v n w h g in
    let b : n < m → ⊥ = no_less told n w m v g h in
    omega (arith, a, b)

no_fewer : (told m v w : ℕ) → IsPartsOf told (10 ^ m) v → IsPartsOf told (10 ^ m) w → v < w → ⊥
no_fewer told m v w h g below =
    let most : told < 10 ^ m * (v + 1) = h.most in
    let more : 10 ^ m * (v + 1) ≤ 10 ^ m * w = mul-le-mul_left (10 ^ m) (omega (arith, below)) in
    let held : 10 ^ m * w ≤ told = g.held in
    omega (arith, most, more, held)

same_value : (told m v w : ℕ) → IsPartsOf told (10 ^ m) v → IsPartsOf told (10 ^ m) w → v ≡ w
same_value told m v w h g =
    let a : v < w → ⊥ = no_fewer told m v w h g in
    let b : w < v → ⊥ = no_fewer told m w v g h in
    omega (arith, a, b)

pub writes_told : (told m v : ℕ) (b : Bool) (w : Written) → IsWrittenWatts told m v → (IsTrue b ↔ (w ≡ record { multiplier = pos m; value = pos v })) → (IsTrue b ↔ Writes told w)
writes_told told m v b w h same = (
  λ is. (m, v, h, same.0 is),
  λ x. (let n = x.0 in
      let is_m : n ≡ m = same_multiplier told n x.1 m v x.2 h in
      let parts : IsPartsOf told (10 ^ m) x.1 = subst (λ (k : ℕ). IsPartsOf told (10 ^ k) x.1) is_m x.2.value_is in
      let is_v : x.1 ≡ v = same_value told m x.1 v parts h.value_is in
      same.1 (x.3 ∙ λ i. record { multiplier = pos (is_m i); value = pos (is_v i) })),
)
