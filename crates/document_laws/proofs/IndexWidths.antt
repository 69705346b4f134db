-- The least width in which so many values differ: there is one, and no other.
use Rattle.std.proofs.Common.{◌≡◌, ℕ, zero, suc, ◌+◌, ◌^◌, ◌<◌, ◌≤◌, arith, inl, inr, zero-le, le_antisymm}
use Rattle.std.proofs.Math.Nat.{pow-suc}
use Rattle.std.proofs.Math.Pow.{pow_mono}
use Rattle.std.proofs.lemmas.Bool.{cases_lt}
use Rattle.exi_schema.specs.Offers.{IsWidth}
use Rattle.exi_documents.specs.Texts.{IsIndexWidth}

pub same_index_width : (n v w : ℕ) → IsIndexWidth n v → IsIndexWidth n w → v ≡ w
same_index_width n v w a b = le_antisymm (a.least w b.enough) (b.least v a.enough)

above : (n m k : ℕ) → 2 ^ m < n → n ≤ 2 ^ k → m < k
above n m k less more =
    elim (cases_lt m k) [
      | inl is ↦ is
      | inr is ↦ let big : 2 ^ k ≤ 2 ^ m = pow_mono is in absurd (omega (arith, less, more, big))
    ]

least_from : (n m : ℕ) → n ≤ 2 ^ m → (w : ℕ) × IsIndexWidth n w
least_from n zero h = (0, record { enough = h; least = λ k more. zero-le })
least_from n (suc m) h =
    elim (cases_lt (2 ^ m) n) [
      | inl less ↦ (suc m, record { enough = h; least = λ k more. above n m k less more })
      | inr enough ↦ least_from n m enough
    ]

below_power : (n : ℕ) → n < 2 ^ n
below_power zero = omega arith
below_power (suc n) = omega (arith, pow-suc 2 n, below_power n)

pub index_width : (n : ℕ) → (w : ℕ) × IsIndexWidth n w
index_width n = least_from n n (omega (arith, below_power n))

pub code_width : (n : ℕ) → (w : ℕ) × IsWidth n w
code_width n = let found = index_width (n + 1) in (found.0, record { enough = found.1.enough; least = found.1.least })
