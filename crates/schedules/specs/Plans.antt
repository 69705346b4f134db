-- How the steps of a profile cover a list of limits: each step starts at one of them, reaches until the next step starts, and has
-- the least watts of those below it. All up to a departure; seconds and watts.
use Rattle.std.specs.Prelude.{◌≡◌, ℕ, ◌+◌, ◌-◌, ◌*◌, ◌^◌, ◌<◌, ◌≤◌, ◌⊎◌, min, List, [], ◌∷◌, ◌++◌, length, drop, fold, slice_index_or}
use Rattle.schedules.specs.declared.power.Step.{Step}
use Rattle.schedules.specs.declared.plan.Plan.{Plan}
use Rattle.schedules.specs.Steps.{next, starts}

-- the least of these watts and those of the steps
abbrev pub least : ℕ → List Step → ℕ
least watts steps = fold (λ low s. min low s.watts) watts steps

-- the steps cover the limits
abbrev pub Covers : List Step → List Step → Type 0
Covers limits [] = limits ≡ []
Covers limits (s ∷ steps) =
    (first : Step) × (part : List Step) × (rest : List Step) × (limits ≡ first ∷ (part ++ rest))
    × (s.start ≡ first.start) × (s.watts ≡ least first.watts part) × Covers rest steps

-- the watt-seconds of the steps, each until the next one
abbrev pub plan_energy : ℕ → List Step → ℕ
plan_energy departure [] = 0
plan_energy departure (s ∷ steps) = s.watts * (next departure steps - s.start) + plan_energy departure steps

-- the first list is the second, or comes before it in the order of a dictionary
abbrev pub IsNotAfter : List ℕ → List ℕ → Type 0
IsNotAfter [] ys = Unit {0}
IsNotAfter (x ∷ xs) [] = ⊥
IsNotAfter (x ∷ xs) (y ∷ ys) = (x < y) ⊎ ((x ≡ y) × IsNotAfter xs ys)

-- the other steps are not better than these
abbrev pub IsAtLeast : ℕ → List Step → List Step → Type 0
IsAtLeast departure steps other =
    (plan_energy departure other < plan_energy departure steps)
    ⊎ ((plan_energy departure steps ≡ plan_energy departure other)
    × ((length steps < length other) ⊎ ((length steps ≡ length other) × IsNotAfter (starts steps) (starts other))))

-- steps that cover the limits, with their energy, which fits
pub record IsPlan (departure : ℕ) (limits : List Step) (sum : ℕ) (steps : List Step) : Type 0 where
  pub covers : Covers limits steps
  pub energy : sum ≡ plan_energy departure steps
  pub fits : sum ≤ 2 ^ 32 * (departure - next departure steps)

-- no other cover of at most `most` steps is better
pub record IsBestOf (departure most : ℕ) (limits steps : List Step) : Type 0 where
  pub few : length steps ≤ most
  pub best : (other : List Step) → Covers limits other → length other ≤ most → IsAtLeast departure steps other

-- a first amount that is more than the other, or as much with a lesser number
abbrev pub IsMore : ℕ → ℕ → ℕ → ℕ → Type 0
IsMore amount number other_amount other_number = (other_amount < amount) ⊎ ((amount ≡ other_amount) × (number < other_number))

abbrev pub no_plan : Plan
no_plan = record { energy = 0; steps = record { items = [] } }

abbrev pub plan_at : List Plan → ℕ → Plan
plan_at plans n = slice_index_or plans n no_plan

abbrev pub steps_at : List Plan → ℕ → List Step
steps_at plans n = (plan_at plans n).steps.items

-- a plan for what is left behind each number of limits, the last for none
pub record ArePlans (departure : ℕ) (limits : List Step) (plans : List Plan) : Type 0 where
  pub even : length plans ≡ length limits + 1
  pub each : (n : ℕ) → n ≤ length limits → IsPlan departure (drop n limits) (plan_at plans n).energy (steps_at plans n)

-- from one place on each is the best of so many steps
abbrev pub AreBest : ℕ → ℕ → ℕ → List Step → List Plan → Type 0
AreBest departure most from limits plans = (n : ℕ) → from ≤ n → n ≤ length limits → IsBestOf departure most (drop n limits) (steps_at plans n)

-- from one place on each has room for one more step
abbrev pub HaveRoom : ℕ → List Plan → Type 0
HaveRoom from plans = (n : ℕ) → from ≤ n → length (steps_at plans n) < 24
