-- Power over time in steps: a step holds from its start until the next one starts. Seconds and watts.
use Rattle.std.specs.Prelude.{◌≡◌, ◌≢◌, ℕ, zero, suc, ◌+◌, ◌<◌, ◌≤◌, nat_le, if◌then◌else◌, List, [], ◌∷◌}
use Rattle.schedules.specs.declared.power.Step.{Step}

-- the watts at second t: those of the last step that starts by then, or `before` where there is none
abbrev pub held : ℕ → List Step → ℕ → ℕ
held before [] t = before
held before (s ∷ steps) t = held (if nat_le s.start t then s.watts else before) steps t

abbrev pub watts_at : List Step → ℕ → ℕ
watts_at steps t = held 0 steps t

-- the watts of the seconds below n together: watt-seconds
unfoldable pub energy : List Step → ℕ → ℕ
energy steps zero = 0
energy steps (suc n) = energy steps n + watts_at steps n

-- the start of the first step, or this end where there is none
abbrev pub next : ℕ → List Step → ℕ
next end [] = end
next end (s ∷ steps) = s.start

-- the first step starts at second t
abbrev pub Begins : ℕ → List Step → Type 0
Begins t [] = ⊥
Begins t (s ∷ steps) = s.start ≡ t

-- the starts rise strictly, from `low` on, and are below `end`
abbrev pub RiseWithin : ℕ → ℕ → List Step → Type 0
RiseWithin low end [] = Unit {0}
RiseWithin low end (s ∷ steps) = (low ≤ s.start) × (s.start < end) × RiseWithin (s.start + 1) end steps

-- each step changes the power: that of the step before, and first `before`
abbrev pub ChangesFrom : ℕ → List Step → Type 0
ChangesFrom before [] = Unit {0}
ChangesFrom before (s ∷ steps) = (s.watts ≢ before) × ChangesFrom s.watts steps

-- no two neighbours have the same power
abbrev pub NeighboursDiffer : List Step → Type 0
NeighboursDiffer [] = Unit {0}
NeighboursDiffer (s ∷ steps) = ChangesFrom s.watts steps

-- the starts of the steps, in order
abbrev pub starts : List Step → List ℕ
starts [] = []
starts (s ∷ steps) = s.start ∷ starts steps
