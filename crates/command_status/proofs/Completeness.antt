-- Counts that did not rise.
use Rattle.std.proofs.Common.{◌≡◌, ◌<◌, ◌⊎◌, ℕ, inl, inr, arith}

-- neither of two counts rose
pub neither : (k l i j : ℕ) → (k < l) ⊎ (i < j) → l ≡ k → j ≡ i → ⊥
neither k l i j (inl h) same also = omega (arith, h, same)
neither k l i j (inr h) same also = omega (arith, h, also)
