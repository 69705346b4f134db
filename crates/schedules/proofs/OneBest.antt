-- Two profiles of which neither is better are the same.
use Rattle.std.proofs.Common.{◌≡◌, ℕ, ◌+◌, ◌<◌, ◌≤◌, List, [], ◌∷◌, length, refl, sym, ap, ◌∙◌, arith, inl, inr}
use Rattle.std.proofs.lemmas.Bool.{cases_order}
use Rattle.schedules.specs.declared.power.Step.{Step}
use Rattle.schedules.specs.declared.power.Schedule.{Schedule}
use Rattle.schedules.specs.Steps.{held, watts_at, energy, starts, RiseWithin}
use Rattle.schedules.specs.Profiles.{IsLess, IsBetter, IsBest}
use Rattle.schedules.proofs.Holding.{held_begun}
use Rattle.schedules.proofs.Bounded.{own_watts}

-- ---- starts

-- lists of one length are the same where neither is less
same_order : (xs ys : List ℕ) → length xs ≡ length ys → (IsLess xs ys → ⊥) → (IsLess ys xs → ⊥) → xs ≡ ys
same_order [] [] long less more = refl
same_order [] (y ∷ ys) long less more = absurd (omega (arith, long))
same_order (x ∷ xs) [] long less more = absurd (omega (arith, long))
same_order (x ∷ xs) (y ∷ ys) long less more =
    elim (cases_order x y) [
      | inr (inl lt) ↦ absurd (less (inl lt))
      | inr (inr gt) ↦ absurd (more (inl gt))
      | inl eq ↦
          let rest : xs ≡ ys = same_order xs ys (omega (arith, long)) (λ h. less (inr (eq, h))) (λ h. more (inr (sym eq, h))) in
          cc
    ]

as_many_starts : (steps : List Step) → length (starts steps) ≡ length steps
as_many_starts [] = refl
as_many_starts (s ∷ steps) = omega (arith, as_many_starts steps)

-- ---- watts

abbrev step_of : ℕ → ℕ → Step
step_of start watts = record { start = start; watts = watts }

same_step : (s t : Step) → s.start ≡ t.start → s.watts ≡ t.watts → s ≡ t
same_step s t start watts = ap (λ a. step_of a s.watts) start ∙ ap (λ w. step_of t.start w) watts

-- with the same starts, and the same power at each second
same_steps : (one other : List Step) (low end before then : ℕ) → RiseWithin low end one → RiseWithin low end other → starts one ≡ starts other
    → ((t : ℕ) → low ≤ t → t < end → held before one t ≡ held then other t) → one ≡ other
same_steps [] [] low end before then r q same at = refl
same_steps [] (t ∷ ts) low end before then r q same at = absurd (cc)
same_steps (s ∷ ss) [] low end before then r q same at = absurd (cc)
same_steps (s ∷ ss) (t ∷ ts) low end before then r q same at =
    let eq : s.start ≡ t.start = cc in
    let others : starts ss ≡ starts ts = cc in
    let watts : s.watts ≡ t.watts =
    sym (own_watts s ss low end before r) ∙ at s.start r.0 r.1 ∙ ap (λ n. held then (t ∷ ts) n) eq ∙ own_watts t ts low end then q in
    let rest : ss ≡ ts =
    same_steps ss ts (s.start + 1) end s.watts t.watts r.2 (rw eq q.2) others
    (λ u h below. sym (held_begun s ss before u (omega (arith, h))) ∙ at u (omega (arith, h, r.0)) below ∙ held_begun t ts then u (omega (arith, h, eq))) in
    let step : s ≡ t = same_step s t eq watts in
    cc

-- ---- the best

not_less : (m n : ℕ) → (m < n → ⊥) → n ≤ m
not_less m n h = elim (cases_order m n) [
  | inl eq ↦ omega (arith, eq)
  | inr (inl lt) ↦ absurd (h lt)
  | inr (inr gt) ↦ omega (arith, gt)
]

between : (m n : ℕ) → m ≤ n → n ≤ m → m ≡ n
between m n le ge = omega (arith, le, ge)

pub same_best : (schedule : Schedule) (cap departure : ℕ) (one other : List Step) → IsBest schedule cap departure one → IsBest schedule cap departure other → one ≡ other
same_best schedule cap departure one other p q =
    let better : IsBetter departure other one → ⊥ = p.best other q.allowed q.marked in
    let worse : IsBetter departure one other → ⊥ = q.best one p.allowed p.marked in
    let more : energy other departure ≤ energy one departure = p.most other q.allowed in
    let less : energy one departure ≤ energy other departure = q.most one p.allowed in
    let sum : energy one departure ≡ energy other departure = between (energy one departure) (energy other departure) less more in
    let as_few : length one ≤ length other = not_less (length other) (length one) (λ h. better (inr (sym sum, inl h))) in
    let no_fewer : length other ≤ length one = not_less (length one) (length other) (λ h. worse (inr (sum, inl h))) in
    let many : length one ≡ length other = between (length one) (length other) as_few no_fewer in
    let long : length (starts one) ≡ length (starts other) = as_many_starts one ∙ many ∙ sym (as_many_starts other) in
    let order : starts one ≡ starts other =
    same_order (starts one) (starts other) long (λ h. worse (inr (sum, inr (many, h)))) (λ h. better (inr (sym sum, inr (sym many, h)))) in
    same_steps one other 0 departure 0 0 p.allowed.profile.rise q.allowed.profile.rise order
    (λ t least below. between (watts_at one t) (watts_at other t) (q.full one p.allowed order t below) (p.full other q.allowed (sym order) t below))
