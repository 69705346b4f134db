-- What a schedule allows until a departure, as limits: steps that begin at 0.
use Rattle.std.specs.Prelude.{◌≡◌, ℕ, ◌<◌, ◌≤◌, min, nat_lt, if◌then◌else◌, List, [], ◌∷◌, ◌++◌, length}
use Rattle.schedules.specs.declared.power.Step.{Step}
use Rattle.schedules.specs.declared.power.Schedule.{Schedule}
use Rattle.schedules.specs.Steps.{watts_at, Begins, RiseWithin}
use Rattle.schedules.specs.Profiles.{allowed, IsMark, Starts}

-- the limits hold what is allowed, and start at the schedule's marks
pub record AreLimits (schedule : Schedule) (cap departure : ℕ) (limits : List Step) : Type 0 where
  pub begins : Begins 0 limits
  pub rise : RiseWithin 0 departure limits
  pub few : length limits ≤ 129
  pub power : (t : ℕ) → t < departure → watts_at limits t ≡ allowed schedule cap t
  pub marked : (t : ℕ) → Starts limits t → IsMark schedule t
  pub marks : (t : ℕ) → t < departure → IsMark schedule t → Starts limits t

-- the entry with no more than the cap, where it starts below `end`
abbrev pub kept_one : ℕ → ℕ → Step → List Step
kept_one cap end s = if nat_lt s.start end then (record { start = s.start; watts = min cap s.watts }) ∷ [] else []

abbrev pub kept : ℕ → ℕ → List Step → List Step
kept cap end [] = []
kept cap end (s ∷ steps) = kept_one cap end s ++ kept cap end steps
