-- Own: which charging profile a car should answer to a schedule (ISO 15118-2:2014, 8.5.2.10 and 8.5.2.14). Seconds and watts.
use Rattle.std.specs.Prelude.{◌≡◌, ℕ, ◌+◌, ◌<◌, ◌≤◌, min, nat_lt, if◌then◌else◌, List, [], ◌∷◌, length, ◌⊎◌}
use Rattle.schedules.specs.declared.power.Step.{Step}
use Rattle.schedules.specs.declared.power.Schedule.{Schedule}
use Rattle.schedules.specs.Steps.{watts_at, energy, Begins, RiseWithin, starts}

-- what can be answered to: the first entry starts at 0, and none starts behind the end
pub record IsSchedule (schedule : Schedule) : Type 0 where
  pub begins : Begins 0 schedule.entries.items
  pub rise : RiseWithin 0 (schedule.end + 1) schedule.entries.items

-- what may be taken at second t: the power of the entries until the end, none from then on, and never more than the cap
abbrev pub allowed : Schedule → ℕ → ℕ → ℕ
allowed schedule cap t = min cap (if nat_lt t schedule.end then watts_at schedule.entries.items t else 0)

-- what a car may answer that leaves at this second
pub record IsProfile (departure : ℕ) (steps : List Step) : Type 0 where
  pub begins : Begins 0 steps
  pub rise : RiseWithin 0 departure steps
  pub few : length steps ≤ 24

-- until the departure nothing above what is allowed is taken
abbrev pub IsWithin : Schedule → ℕ → ℕ → List Step → Type 0
IsWithin schedule cap departure steps = (t : ℕ) → t < departure → watts_at steps t ≤ allowed schedule cap t

-- a profile, and within
pub record IsAllowed (schedule : Schedule) (cap departure : ℕ) (steps : List Step) : Type 0 where
  pub profile : IsProfile departure steps
  pub within : IsWithin schedule cap departure steps

abbrev pub Starts : List Step → ℕ → Type 0
Starts [] t = ⊥
Starts (s ∷ steps) t = (s.start ≡ t) ⊎ Starts steps t

-- the second 0, the starts of the schedule, and its end
abbrev pub IsMark : Schedule → ℕ → Type 0
IsMark schedule t = (t ≡ 0) ⊎ (Starts schedule.entries.items t ⊎ (t ≡ schedule.end))

-- each step starts at a mark
abbrev pub IsMarked : Schedule → List Step → Type 0
IsMarked schedule [] = Unit {0}
IsMarked schedule (s ∷ steps) = IsMark schedule s.start × IsMarked schedule steps

-- with these starts nothing more may be taken at any second
abbrev pub IsFull : Schedule → ℕ → ℕ → List Step → Type 0
IsFull schedule cap departure steps =
    (other : List Step) → IsAllowed schedule cap departure other → starts other ≡ starts steps →
    (t : ℕ) → t < departure → watts_at other t ≤ watts_at steps t

-- the first list comes before the second in the order of a dictionary
abbrev pub IsLess : List ℕ → List ℕ → Type 0
IsLess xs [] = ⊥
IsLess [] (y ∷ ys) = Unit {0}
IsLess (x ∷ xs) (y ∷ ys) = (x < y) ⊎ ((x ≡ y) × IsLess xs ys)

-- the first profile has more energy, else as much with fewer steps, else as many with lesser starts
abbrev pub IsBetter : ℕ → List Step → List Step → Type 0
IsBetter departure one other =
    (energy other departure < energy one departure)
    ⊎ ((energy one departure ≡ energy other departure)
    × ((length one < length other) ⊎ ((length one ≡ length other) × IsLess (starts one) (starts other))))

-- The best answer to a schedule: its steps start at marks and are full, no allowed profile has more energy, whatever its starts,
-- and none with its starts at marks is better.
pub record IsBest (schedule : Schedule) (cap departure : ℕ) (steps : List Step) : Type 0 where
  pub allowed : IsAllowed schedule cap departure steps
  pub marked : IsMarked schedule steps
  pub full : IsFull schedule cap departure steps
  pub most : (other : List Step) → IsAllowed schedule cap departure other → energy other departure ≤ energy steps departure
  pub best : (other : List Step) → IsAllowed schedule cap departure other → IsMarked schedule other → IsBetter departure other steps → ⊥
