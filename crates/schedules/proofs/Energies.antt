-- The energy of steps, second by second, is that of each step until the next one.
use Rattle.std.proofs.Common.{◌≡◌, ℕ, zero, suc, ◌+◌, ◌-◌, ◌*◌, ◌<◌, ◌≤◌, List, [], ◌∷◌, refl, sym, ap, ◌∙◌, arith}
use Rattle.schedules.specs.declared.power.Step.{Step}
use Rattle.schedules.specs.Steps.{held, energy, next, RiseWithin}
use Rattle.schedules.proofs.Holding.{held_begun, held_waiting, held_before, next_after}
use Rattle.schedules.specs.Plans.{plan_energy}

-- the sum below second n, where `before` is held before the first step
total : ℕ → List Step → ℕ → ℕ
total before steps zero = 0
total before steps (suc n) = total before steps n + held before steps n

total_is : (steps : List Step) (n : ℕ) → energy steps n ≡ total 0 steps n
unfolding energy total
total_is steps zero = refl
total_is steps (suc n) = ap (λ e. e + held 0 steps n) (total_is steps n)

-- until the first step
waited : (s : Step) (steps : List Step) (before low end n : ℕ) → RiseWithin low end (s ∷ steps) → n ≤ s.start → total before (s ∷ steps) n ≡ before * n
unfolding total
waited s steps before low end zero rise h = omega arith
waited s steps before low end (suc n) rise h =
    omega (
      arith,
      waited s steps before low end n rise (omega arith),
      held_waiting s steps before n (omega arith),
      held_before steps (s.start + 1) end before n rise.2 (omega arith),
    )

still : (steps : List Step) (before low end n : ℕ) → RiseWithin low end steps → n ≤ low → total before steps n ≡ before * n
unfolding total
still steps before low end zero rise h = omega arith
still steps before low end (suc n) rise h =
    omega (arith, still steps before low end n rise (omega arith), held_before steps low end before n rise (omega arith))

-- from the first step on
changed : (s : Step) (steps : List Step) (before low end k : ℕ) → RiseWithin low end (s ∷ steps) →
    total before (s ∷ steps) (s.start + k) + s.watts * s.start ≡ before * s.start + total s.watts steps (s.start + k)
unfolding total
changed s steps before low end zero rise =
    let e : s.start + 0 ≡ s.start = omega arith in
    rw e (omega (arith, waited s steps before low end s.start rise (omega arith), still steps s.watts (s.start + 1) end s.start rise.2 (omega arith)))
changed s steps before low end (suc k) rise =
    let e : s.start + suc k ≡ suc (s.start + k) = omega arith in
    rw e (omega (arith, changed s steps before low end k rise, held_begun s steps before (s.start + k) (omega arith)))

all_of : (steps : List Step) (before low end : ℕ) → RiseWithin low end steps → total before steps end ≡ before * next end steps + plan_energy end steps
all_of [] before low end rise = omega (arith, still [] before end end end tt (omega arith))
all_of (s ∷ steps) before low end rise =
    let inside : s.start < end = rise.1 in
    let later : s.start < next end steps = omega (arith, next_after steps (s.start + 1) end rise.2 (omega arith)) in
    let e : s.start + (end - s.start) ≡ end = omega arith in
    let c : total before (s ∷ steps) end + s.watts * s.start ≡ before * s.start + total s.watts steps end =
    rw e at (changed s steps before low end (end - s.start) rise) in
    let d : (next end steps - s.start) + s.start ≡ next end steps = omega arith in
    let f : s.watts * (next end steps - s.start) + s.watts * s.start ≡ s.watts * next end steps = product s.watts (next end steps - s.start) s.start (next end steps) d in
    omega (arith, c, f, all_of steps s.watts (s.start + 1) end rise.2) where
      product : (w a b c : ℕ) → a + b ≡ c → w * a + w * b ≡ w * c
      product w a b c h = rw (sym h) (omega arith)

-- steps that begin at 0
pub energy_is : (steps : List Step) (end : ℕ) → RiseWithin 0 end steps → energy steps end ≡ plan_energy end steps
energy_is steps end rise = total_is steps end ∙ omega (arith, all_of steps 0 0 end rise)
