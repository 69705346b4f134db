-- Laws of the level.
use Rattle.std.proofs.Common.{◌≡◌, ℕ, ◌<◌, ◌≤◌, List, [], ◌∷◌, min, zero, suc, inl, inr, arith}
use Rattle.std.proofs.lemmas.Bool.{cases_lt}
use Rattle.std.proofs.lemmas.List.Sums.{sum_by-le-sum_by, sum_by-cons}
use Rattle.power_share.specs.Sharing.{greatest_ask, taken_up_to, IsBearable, IsLevel}

-- more is taken up to a greater number
pub taken_grows : (asks : List ℕ) (m n : ℕ) → m ≤ n → taken_up_to m asks ≤ taken_up_to n asks
taken_grows asks m n h = sum_by-le-sum_by (λ ask. min ask m) (λ ask. min ask n) asks (λ ask. omega arith)

-- nothing is taken up to 0
pub taken_none : (asks : List ℕ) → taken_up_to 0 asks ≡ 0
taken_none [] = omega arith
taken_none (ask ∷ asks) = omega (arith, sum_by-cons (λ a. min a 0) ask asks, taken_none asks)

pub none_bearable : (limit : ℕ) (asks : List ℕ) → IsBearable limit asks 0
none_bearable limit asks = record { asked = omega arith; borne = omega (arith, taken_none asks) }

-- the loop's step where the middle is too much
pub lower : (limit : ℕ) (asks : List ℕ) (middle : ℕ) → limit < taken_up_to middle asks → (m : ℕ) → IsBearable limit asks m → m < middle
lower limit asks middle h m b =
    elim (cases_lt m middle) [ inl lt ↦ lt | inr ge ↦ absurd (omega (arith, taken_grows asks middle m ge, b.borne)) ]

-- no number above b is bearable: then there is a level
level_up_to : (limit : ℕ) (asks : List ℕ) (b : ℕ) → ((m : ℕ) → IsBearable limit asks m → m ≤ b) → (n : ℕ) × IsLevel limit asks n
level_up_to limit asks zero most = (0, record { bearable = none_bearable limit asks; greatest = most })
level_up_to limit asks (suc b) most =
    elim (cases_lt (greatest_ask asks) (suc b)) [
      | inl small ↦ level_up_to limit asks b (λ m h. omega (arith, h.asked))
      | inr asked ↦ elim (cases_lt limit (taken_up_to (suc b) asks)) [
        | inl much ↦ level_up_to limit asks b (λ m h. omega (arith, lower limit asks (suc b) much m h))
        | inr borne ↦ (suc b, record { bearable = record { asked = asked; borne = borne }; greatest = most })
      ]
    ]

pub level_exists : (limit : ℕ) (asks : List ℕ) → (n : ℕ) × IsLevel limit asks n
level_exists limit asks = level_up_to limit asks (greatest_ask asks) (λ m h. h.asked)

pub level_unique : (limit : ℕ) (asks : List ℕ) (m n : ℕ) → IsLevel limit asks m → IsLevel limit asks n → m ≡ n
level_unique limit asks m n a b = omega (arith, a.greatest n b.bearable, b.greatest m a.bearable)
