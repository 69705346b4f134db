-- A day's calendar, turned so that it begins at a moment.
use Rattle.std.specs.Prelude.{◌≡◌, ℕ, ◌+◌, ◌-◌, nat_lt, ◌==◌, if◌then◌else◌, List, [], ◌∷◌, ◌++◌}
use Rattle.schedules.specs.declared.power.Step.{Step}

-- the step, where it starts behind the moment, in seconds from the moment
abbrev pub ahead_one : ℕ → Step → List Step
ahead_one moment s = if nat_lt moment s.start then (record { start = s.start - moment; watts = s.watts }) ∷ [] else []

abbrev pub ahead : ℕ → List Step → List Step
ahead moment [] = []
ahead moment (s ∷ steps) = ahead_one moment s ++ ahead moment steps

-- the step of the next day, where it starts before the moment, in seconds from the moment
abbrev pub past_one : ℕ → Step → List Step
past_one moment s = if nat_lt s.start moment then (record { start = s.start + (86400 - moment); watts = s.watts }) ∷ [] else []

abbrev pub past : ℕ → List Step → List Step
past moment [] = []
past moment (s ∷ steps) = past_one moment s ++ past moment steps

-- the steps that change the power, which first is `before`
abbrev pub merged : ℕ → List Step → List Step
merged before [] = []
merged before (s ∷ steps) = if s.watts == before then merged before steps else s ∷ merged s.watts steps
